-- The lines of a watch, look by look.
use Rattle.std.proofs.Common.{◌≡◌, ◌≢◌, ◌⊎◌, ⊎_elim, ℕ, zero, suc, ◌<◌, ◌≤◌, Bool, true, false, cond, List, [], ◌∷◌, ◌++◌, length, All, Contains, None, Some, slice_get, slice_index, slice_set, get_or, refl, sym, ap, ◌∙◌, subst, inl, inr, arith}
use Rattle.std.specs.List.{AllZip}
use Rattle.std.proofs.lemmas.Bool.{false≢true}
use Rattle.std.proofs.lemmas.Option.{same_Some, none-some}
use Rattle.std.proofs.lemmas.List.{flat_map_more, length-set, get_or-set_same}
use Rattle.std.proofs.lemmas.List.Elements.{All-push, All-contains, Contains-push, Contains-append_left}
use Rattle.std.proofs.lemmas.List.Quantifiers.{all_pairs_push}
use Rattle.m17_ports.specs.Book.{BookTold, HasText}
use Rattle.m17_ports.specs.Laws.{BooksAreWrittenInTurn}
use Rattle.m17_control.specs.Modules.{letters_before}
use Rattle.m17_control.specs.declared.modules.Modules.{Modules}
use Rattle.m17_board.specs.Glance.{glance_of, IsGlanceWithin}
use Rattle.m17_board.specs.Ends.{PostEnd, EyeEnd, SawFirstParts, seen_more}
use Rattle.m17_board.specs.declared.glance.Glance.{Glance}
use Rattle.m17_board.specs.Lines.{glance_line}
use Rattle.m17_board.specs.Shows.{Shown, IsPlaceOf, HasLooked, WritesLine, WritesNothing, LookedAt, Watched, not_yet, one_look}
use Rattle.m17_board.specs.Written.{BoardLine, lines_text, Rises, HasSeen, IsLastOf, Wrote, WroteBy, TellFirstParts}

not_there : {A : Type 0} (a : A) (R : Type 0) → None ≡ Some a → R
not_there a R e = absurd (none-some a e)

-- an eye's place in a list in which one eye was replaced by itself after a look
seen_set : (eyes : List EyeEnd) (i : ℕ) (old new : EyeEnd) → slice_get eyes i ≡ Some old → ((g : Glance) → Contains old.seen g → Contains new.seen g)
    → (p : ℕ) (g : Glance) → HasSeen eyes p g → HasSeen (slice_set eyes i new) p g
seen_set [] i old new at more p g h = not_there old (HasSeen (slice_set [] i new) p g) at
seen_set (e ∷ es) zero old new at more zero g h = (new, refl, more g (subst (λ (x : EyeEnd). Contains x.seen g) (same_Some h.0 old (sym h.1 ∙ at)) h.2))
seen_set (e ∷ es) zero old new at more (suc p) g h = h
seen_set (e ∷ es) (suc i) old new at more zero g h = h
seen_set (e ∷ es) (suc i) old new at more (suc p) g h = seen_set es i old new at more p g h

there_set : {A : Type 0} (xs : List A) (i : ℕ) (old new : A) → slice_get xs i ≡ Some old → slice_get (slice_set xs i new) i ≡ Some new
there_set [] i old new at = not_there old (slice_get (slice_set [] i new) i ≡ Some new) at
there_set (x ∷ xs) zero old new at = refl
there_set (x ∷ xs) (suc i) old new at = there_set xs i old new at

-- what is seen stays seen, and what was looked at is
seen_on : (eyes eyes' : List EyeEnd) (place : ℕ) (glance : Glance) → HasLooked eyes place glance eyes' → (p : ℕ) (g : Glance) → HasSeen eyes p g → HasSeen eyes' p g
seen_on eyes eyes' place glance h p g seen =
    subst (λ (l : List EyeEnd). HasSeen l p g) (sym h.eyes_are)
    (seen_set eyes place h.eye (seen_more h.eye h.more) h.there (λ x c. Contains-append_left h.eye.seen (glance_of (h.eye.known ++ h.more) ∷ []) x c) p g seen)

seen_now : (eyes eyes' : List EyeEnd) (place : ℕ) (glance : Glance) → HasLooked eyes place glance eyes' → HasSeen eyes' place glance
seen_now eyes eyes' place glance h =
    let saw = glance_of (h.eye.known ++ h.more) in
    subst (λ (l : List EyeEnd). HasSeen l place glance) (sym h.eyes_are)
    (seen_more h.eye h.more, there_set eyes place h.eye (seen_more h.eye h.more) h.there, subst (Contains (h.eye.seen ++ saw ∷ [])) (sym h.saw) (Contains-push h.eye.seen saw))

one_there : (lines : List BoardLine) (one : BoardLine) → lines ++ one ∷ [] ≢ []
one_there [] one e = absurd (omega (arith, ap length e))
one_there (l ∷ lines) one e = absurd (omega (arith, ap length e))

-- a number that is replaced, and the others
pub index_set : (xs : List ℕ) (i v p : ℕ) → i < length xs
    → ((p ≡ i) × (slice_index (slice_set xs i v) p ≡ v)) ⊎ (slice_index (slice_set xs i v) p ≡ slice_index xs p)
index_set [] i v p lt = absurd (omega arith)
index_set (x ∷ xs) zero v zero lt = inl (refl, refl)
index_set (x ∷ xs) zero v (suc p) lt = inr refl
index_set (x ∷ xs) (suc i) v zero lt = inr refl
index_set (x ∷ xs) (suc i) v (suc p) lt = ⊎_elim (λ t. inl (ap suc t.0, t.1)) (λ t. inr t) (index_set xs i v p (omega arith))

-- what a module's last line says is no less than before
no_less : (before : List ℕ) (lines : List BoardLine) (place number : ℕ) → All (λ line. slice_index before line.place < line.glance.records) lines → IsLastOf before lines place number
    → slice_index before place ≤ number
no_less before lines place number above (inl e) = omega arith
no_less before lines place number above (inr h) =
    let over = All-contains (λ (line : BoardLine). slice_index before line.place < line.glance.records) lines h.0 above h.1 in
    let over' : slice_index before place < h.0.glance.records = subst (λ (p : ℕ). slice_index before p < h.0.glance.records) h.2 over in
    omega (arith, h.3)

last_on : (before : List ℕ) (lines more : List BoardLine) (place number : ℕ) → IsLastOf before lines place number → IsLastOf before (lines ++ more) place number
last_on before lines more place number (inl e) = inl e
last_on before lines more place number (inr h) = inr (h.0, Contains-append_left lines more h.0 h.1, h.2, h.3)

module _ {B L : Type 0} (told : B → BookTold L) (modules : Modules) (from : Shown B) (law : BooksAreWrittenInTurn L) where
  pub none : (Tells : ℕ → Glance → Type 0) → from.failed ≡ false → WroteBy Tells told modules from from []
  none Tells fresh = record {
    text = subst (λ (b : Bool). HasText (told from.book) [] b (told from.book)) (sym fresh) (law.nothing (told from.book));
    of_modules = λ k d lt. absurd (omega arith);
    tell = λ k d lt. absurd (omega arith);
    rise = λ i j d a b. absurd (omega arith);
    above = λ k d lt. absurd (omega arith);
    greatest = λ ok k d lt. absurd (omega arith);
    last = λ place. inl refl;
    as_many = refl;
    failed_line = λ failed. absurd (false≢true (sym fresh ∙ failed));
  }

  -- what is told of them, told by more
  pub retell : (Tells More : ℕ → Glance → Type 0) (a : Shown B) (eyes : List EyeEnd) (lines : List BoardLine) → ((p : ℕ) (g : Glance) → Tells p g → More p g)
      → WroteBy Tells told modules from a lines → WroteBy More told modules from record a { eyes = eyes } lines
  retell Tells More a eyes lines more w = record {
    text = w.text;
    of_modules = w.of_modules;
    tell = λ k d lt. more _ _ (w.tell k d lt);
    rise = w.rise;
    above = w.above;
    greatest = w.greatest;
    last = w.last;
    as_many = w.as_many;
    failed_line = w.failed_line;
  }

  -- where a line is written
  module _ (Tells : ℕ → Glance → Type 0) (a b : Shown B) (lines : List BoardLine) (letter place : ℕ) (glance : Glance) (w : WroteBy Tells told modules from a lines)
      (at : IsPlaceOf modules letter place) (tells : Tells place glance) (writes : WritesLine told letter place glance a b) where
    abbrev one : BoardLine
    one = record { letter = letter; place = place; glance = glance }

    text_more : HasText (told from.book) (lines_text (lines ++ one ∷ [])) b.failed (told b.book)
    text_more =
        let first = subst (λ (f : Bool). HasText (told from.book) (lines_text lines) f (told a.book)) writes.going w.text in
        subst (λ (t : List ℕ). HasText (told from.book) t b.failed (told b.book)) (flat_map_more (λ (l : BoardLine). glance_line l.letter l.glance) [] lines one)
        (law.in_turn (told from.book) (told a.book) (told b.book) (lines_text lines) (glance_line letter glance) b.failed first writes.text)

    rises : (k : ℕ) (d : BoardLine) → k < length lines → Rises (get_or lines k d) one
    rises k d lt e =
        let l = get_or lines k d in
        let here : l.place ≡ place = (w.of_modules k d lt).1 ∙ ap (λ (c : ℕ). length (letters_before modules c)) e ∙ sym at.1 in
        let most : l.glance.records ≤ slice_index a.last place = subst (λ (p : ℕ). l.glance.records ≤ slice_index a.last p) here (w.greatest writes.going k d lt) in
        omega (arith, writes.grown)

    over : slice_index from.last place < glance.records
    over = let least = no_less from.last lines place (slice_index a.last place) w.above (w.last place) in omega (arith, writes.grown)

    replaced : b.failed ≡ false → b.last ≡ slice_set a.last place glance.records
    replaced ok = writes.last ∙ ap (λ (f : Bool). cond f a.last (slice_set a.last place glance.records)) ok

    most_on : b.failed ≡ false → (k : ℕ) (d : BoardLine) → k < length lines → (get_or lines k d).glance.records ≤ slice_index b.last (get_or lines k d).place
    most_on ok k d lt =
        let l = get_or lines k d in
        let old : l.glance.records ≤ slice_index a.last l.place = w.greatest writes.going k d lt in
        subst (λ (n : List ℕ). l.glance.records ≤ slice_index n l.place) (sym (replaced ok))
        (⊎_elim
        (λ t. let here : l.glance.records ≤ slice_index a.last place = subst (λ (p : ℕ). l.glance.records ≤ slice_index a.last p) t.0 old in omega (arith, writes.grown, t.1))
        (λ t. omega (arith, old, t))
        (index_set a.last place glance.records l.place writes.there))

    most_now : b.failed ≡ false → glance.records ≤ slice_index b.last place
    most_now ok =
        let same : slice_index (slice_set a.last place glance.records) place ≡ glance.records = get_or-set_same a.last place glance.records 0 writes.there in
        subst (λ (n : List ℕ). glance.records ≤ slice_index n place) (sym (replaced ok)) (omega (arith, same))

    last_now : (p : ℕ) (f : Bool) → b.failed ≡ f → IsLastOf from.last (lines ++ one ∷ []) p (slice_index b.last p)
    last_now p true e =
        let same = writes.last ∙ ap (λ (f : Bool). cond f a.last (slice_set a.last place glance.records)) e in
        subst (λ (n : List ℕ). IsLastOf from.last (lines ++ one ∷ []) p (slice_index n p)) (sym same) (last_on from.last lines (one ∷ []) p (slice_index a.last p) (w.last p))
    last_now p false e =
        subst (λ (n : List ℕ). IsLastOf from.last (lines ++ one ∷ []) p (slice_index n p)) (sym (replaced e))
        (⊎_elim
        (λ t. inr (one, Contains-push lines one, sym t.0, t.1))
        (λ t. subst (IsLastOf from.last (lines ++ one ∷ []) p) (sym t) (last_on from.last lines (one ∷ []) p (slice_index a.last p) (w.last p)))
        (index_set a.last place glance.records p writes.there))

    many : (f : Bool) → b.failed ≡ f → length b.last ≡ length from.last
    many true e = ap length (writes.last ∙ ap (λ (f : Bool). cond f a.last (slice_set a.last place glance.records)) e) ∙ w.as_many
    many false e = ap length (replaced e) ∙ length-set a.last place glance.records ∙ w.as_many

    pub written : WroteBy Tells told modules from b (lines ++ one ∷ [])
    written = record {
      text = text_more;
      of_modules = All-push (λ (l : BoardLine). IsPlaceOf modules l.letter l.place) lines one w.of_modules at;
      tell = All-push (λ (l : BoardLine). Tells l.place l.glance) lines one w.tell tells;
      rise = all_pairs_push Rises lines one w.rise rises;
      above = All-push (λ (l : BoardLine). slice_index from.last l.place < l.glance.records) lines one w.above over;
      greatest = λ ok. All-push (λ (l : BoardLine). l.glance.records ≤ slice_index b.last l.place) lines one (most_on ok) (most_now ok);
      last = λ p. last_now p b.failed refl;
      as_many = many b.failed refl;
      failed_line = λ _ none. one_there lines one none;
    }

  one_more : (a b : Shown B) (letter place : ℕ) → IsPlaceOf modules letter place → LookedAt told letter place a b → (lines : List BoardLine) → Wrote told modules from a lines
      → (more : List BoardLine) × Wrote told modules from b more
  one_more a b letter place at looked lines w =
      let on = retell (HasSeen a.eyes) (HasSeen looked.eyes) a looked.eyes lines (λ p g h. seen_on a.eyes looked.eyes place looked.glance looked.looked p g h) w in
      ⊎_elim
      (λ (writes : WritesLine told letter place looked.glance record a { eyes = looked.eyes } b). (
        lines ++ record { letter = letter; place = place; glance = looked.glance } ∷ [],
        subst (λ (e : List EyeEnd). WroteBy (HasSeen e) told modules from b (lines ++ record { letter = letter; place = place; glance = looked.glance } ∷ [])) (sym writes.eyes)
            (written (HasSeen looked.eyes) record a { eyes = looked.eyes } b lines letter place looked.glance on at (seen_now a.eyes looked.eyes place looked.glance looked.looked) writes),
      ))
      (λ (nothing : WritesNothing place looked.glance record a { eyes = looked.eyes } b). (lines, subst (λ (x : Shown B). Wrote told modules from x lines) (sym nothing.same) on)) looked.writes

  -- what was written, look by look
  pub lines_of : from.failed ≡ false → (to : Shown B) → Watched told modules from to → (lines : List BoardLine) × Wrote told modules from to lines
  lines_of fresh to not_yet = ([], none (HasSeen from.eyes) fresh)
  lines_of fresh to (one_look a b letter place before at looked) = let t = lines_of fresh a before in one_more a b letter place at looked t.0 t.1

-- what an eye saw is what is shown of a first part
pub tell_first : (ps : List PostEnd) (es : List EyeEnd) (place : ℕ) (g : Glance) → AllZip SawFirstParts ps es → HasSeen es place g
    → (p : PostEnd) × (slice_get ps place ≡ Some p) × IsGlanceWithin p.posted g
tell_first [] [] place g z h = absurd (none-some h.0 h.1)
tell_first [] (e ∷ es) place g z h = absurd z
tell_first (p ∷ ps) [] place g z h = absurd z
tell_first (p ∷ ps) (e ∷ es) zero g z h =
    (p, refl, All-contains (IsGlanceWithin p.posted) e.seen g z.0 (subst (λ (x : EyeEnd). Contains x.seen g) (sym (same_Some e h.0 h.1)) h.2))
tell_first (p ∷ ps) (e ∷ es) (suc n) g z h = tell_first ps es n g z.1 h

pub tell_all : (ps : List PostEnd) (es : List EyeEnd) (lines : List BoardLine) → All (λ line. HasSeen es line.place line.glance) lines → AllZip SawFirstParts ps es → TellFirstParts ps lines
tell_all ps es lines seen z k d lt = tell_first ps es _ _ z (seen k d lt)
