-- The ends of a watch, look by look.
use Rattle.std.proofs.Common.{◌≡◌, ⊎_elim, ℕ, zero, suc, List, [], ◌∷◌, map, Some, slice_get, slice_set, refl, sym, ap, ◌∙◌, subst}
use Rattle.std.proofs.lemmas.Option.{same_Some}
use Rattle.m17_ports.specs.Book.{BookTold}
use Rattle.m17_control.specs.declared.modules.Modules.{Modules}
use Rattle.m17_board.specs.Ends.{PostEnd, EyeEnd, IsPair, AreOfOneBoard, seen_more}
use Rattle.m17_board.specs.declared.glance.Glance.{Glance}
use Rattle.m17_board.specs.Shows.{Shown, HasLooked, WritesLine, WritesNothing, LookedAt, Watched, not_yet, one_look}

map_set : {A : Type 0} (f : EyeEnd → A) (es : List EyeEnd) (i : ℕ) (old new : EyeEnd) → slice_get es i ≡ Some old → f new ≡ f old → map f (slice_set es i new) ≡ map f es
map_set f [] i old new at e = refl
map_set f (x ∷ es) zero old new at e = let same : f new ≡ f x = e ∙ ap f (sym (same_Some x old at)) in (λ i. same i ∷ map f es)
map_set f (x ∷ es) (suc i) old new at e = let rest = map_set f es i old new at e in (λ i. f x ∷ rest i)

zip_set : (ps : List PostEnd) (es : List EyeEnd) (i : ℕ) (old new : EyeEnd) → slice_get es i ≡ Some old → ((p : PostEnd) → IsPair p old → IsPair p new) → AreOfOneBoard ps es
    → AreOfOneBoard ps (slice_set es i new)
zip_set [] [] i old new at on z = z
zip_set [] (x ∷ es) i old new at on z = absurd z
zip_set (p ∷ ps) [] i old new at on z = absurd z
zip_set (p ∷ ps) (x ∷ es) zero old new at on z = (on p (subst (IsPair p) (same_Some x old at) z.0), z.1)
zip_set (p ∷ ps) (x ∷ es) (suc i) old new at on z = (z.0, zip_set ps es i old new at on z.1)

-- what the looks leave as it was
pub record AreSame {B L : Type 0} (told : B → BookTold L) (from to : Shown B) : Type 0 where
  pub cells : map (λ eye. eye.cell) to.eyes ≡ map (λ eye. eye.cell) from.eyes
  pub numbers : map (λ eye. eye.number) to.eyes ≡ map (λ eye. eye.number) from.eyes
  pub board : (posters : List PostEnd) → AreOfOneBoard posters from.eyes → AreOfOneBoard posters to.eyes
  pub device : (told to.book).device ≡ (told from.book).device

module _ {B L : Type 0} (told : B → BookTold L) (modules : Modules) (from : Shown B) where
  looked_on : (a : Shown B) (place : ℕ) (glance : Glance) (eyes : List EyeEnd) → HasLooked a.eyes place glance eyes → AreSame told from a → AreSame told from record a { eyes = eyes }
  looked_on a place glance eyes h s = record {
    cells = ap (map (λ (e : EyeEnd). e.cell)) h.eyes_are ∙ map_set (λ (e : EyeEnd). e.cell) a.eyes place h.eye (seen_more h.eye h.more) h.there refl ∙ s.cells;
    numbers = ap (map (λ (e : EyeEnd). e.number)) h.eyes_are ∙ map_set (λ (e : EyeEnd). e.number) a.eyes place h.eye (seen_more h.eye h.more) h.there refl ∙ s.numbers;
    board = λ posters z. subst (AreOfOneBoard posters) (sym h.eyes_are) (zip_set posters a.eyes place h.eye (seen_more h.eye h.more) h.there (λ p pair. pair) (s.board posters z));
    device = s.device;
  }

  written_on : (a b : Shown B) (letter place : ℕ) (glance : Glance) → WritesLine told letter place glance a b → AreSame told from a → AreSame told from b
  written_on a b letter place glance w s = record {
    cells = ap (map (λ (e : EyeEnd). e.cell)) w.eyes ∙ s.cells;
    numbers = ap (map (λ (e : EyeEnd). e.number)) w.eyes ∙ s.numbers;
    board = λ posters z. subst (AreOfOneBoard posters) (sym w.eyes) (s.board posters z);
    device = w.text.same_device ∙ s.device;
  }

  one_on : (a b : Shown B) (letter place : ℕ) → LookedAt told letter place a b → AreSame told from a → AreSame told from b
  one_on a b letter place h s =
      let then = looked_on a place h.glance h.eyes h.looked s in
      ⊎_elim (λ (w : WritesLine told letter place h.glance record a { eyes = h.eyes } b). written_on _ b letter place h.glance w then)
      (λ (n : WritesNothing place h.glance record a { eyes = h.eyes } b). subst (AreSame told from) (sym n.same) then) h.writes

  pub ends_of : (to : Shown B) → Watched told modules from to → AreSame told from to
  ends_of to not_yet = record { cells = refl; numbers = refl; board = λ posters z. z; device = refl }
  ends_of to (one_look a b letter place before at looked) = one_on a b letter place looked (ends_of a before)
