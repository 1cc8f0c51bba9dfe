-- Each step keeps the rule.
use Rattle.std.proofs.Common.{◌≡◌, ◌≢◌, ℕ, zero, suc, ◌^◌, ◌<◌, Bool, true, false, true≢false, cond, List, [], ◌∷◌, ◌++◌, length, set, nat_lt, slice_index, refl, sym, ap, ◌∙◌, subst, ⊎_elim, arith, append-nil, append_assoc}
use Rattle.std.specs.List.{All}
use Rattle.std.proofs.lemmas.List.Elements.{All-append}
use mathlib.Core.Option.{some, some-ne-none, some-injective}
use lib.ListN.{get_elem?}
use Rattle.crossbeam_utils.specs.Register.{Turns, Forks, Merges}
use Rattle.atomic_table.proofs.Lists.{at_set, at_snoc, set_again}
use Rattle.m17_book.specs.declared.record.Record.{Record}
use Rattle.m17_board.specs.declared.glance.Glance.{Glance}
use Rattle.m17_board.specs.declared.rule.Knows.{Knows}
use Rattle.m17_board.specs.Glance.{glance_of, glance_words, IsFirstPart, IsGlanceWithin}
use Rattle.m17_board.specs.Ends.{longer}
use Rattle.m17_board.specs.Rule.{poster, reader, nobody, told_by, hearing, gathering, takes, Fits, Kept, adds, looked, checked}

off : false ≡ true → ⊥
off e = true≢false (sym e)

-- a pass that does not post knows too much for the poster's
reads : {A : Type 0} (v : Knows) → v.posts ≡ false → v.posts ≡ true → A
reads v r p = absurd (off (sym r ∙ p))

fits_set : (seat : ℕ) (posted : List Record) (views : List Knows) (by : ℕ) (w : Knows) → ((j : ℕ) (u : Knows) → j ≢ by → get_elem? views j ≡ some u → Fits seat posted j u) → Fits seat posted by w → (j : ℕ) (u : Knows) → get_elem? (set views by w) j ≡ some u → Fits seat posted j u
fits_set seat posted views by w others mine j u e =
    ⊎_elim
    (λ (x : (j ≡ by) × (w ≡ u)). subst (λ (y : ℕ × Knows). Fits seat posted y.0 y.1) (λ i. (sym x.0 i, x.1 i)) mine)
    (λ (x : (j ≢ by) × (get_elem? views j ≡ some u)). others j u x.0 x.1)
    (at_set views by j w u e)

first_more : (part posted more : List Record) → IsFirstPart part posted → IsFirstPart part (posted ++ more)
first_more part posted more f = (f.0 ++ more, ap (λ (l : List Record). l ++ more) f.1 ∙ append_assoc part f.0 more)

seen_more : (seen : List Glance) (posted more : List Record) → All (IsGlanceWithin posted) seen → All (IsGlanceWithin (posted ++ more)) seen
seen_more seen posted more h k d lt = let g = h k d lt in (g.0, first_more g.0 posted more g.1, g.2)

seen_none : (posted : List Record) → All (IsGlanceWithin posted) []
seen_none posted k d lt = absurd (omega arith)

seen_one : (posted : List Record) (g : Glance) → IsGlanceWithin posted g → All (IsGlanceWithin posted) (g ∷ [])
seen_one posted g is zero d lt = is
seen_one posted g is (suc k) d lt = absurd (omega arith)

fits_new : (seat by : ℕ) (posted known : List Record) → IsFirstPart known posted → Fits seat posted by (reader known)
fits_new seat by posted known f = record { posts = λ p. absurd (off p); first = f; seen = seen_none posted }

fits_nobody : (seat by : ℕ) (posted : List Record) → Fits seat posted by nobody
fits_nobody seat by posted = fits_new seat by posted [] (posted, refl)

pub begins : (words : List ℕ) → words ≡ glance_words (glance_of []) → slice_index words 4 < 2 ^ 48 → Kept words (poster [] ∷ [])
begins words e lt = (0, [], e, lt, one)
  where
    one : (by : ℕ) (v : Knows) → get_elem? (poster [] ∷ []) by ≡ some v → Fits 0 [] by v
    one zero v at = subst (Fits 0 [] 0) (some-injective _ _ at) record { posts = λ _. (refl, refl); first = ([], refl); seen = seen_none [] }
    one (suc by) v at = absurd (some-ne-none v (sym at))

fits_more : (seat : ℕ) (posted more : List Record) (j : ℕ) (u : Knows) → (u.posts ≡ true → ⊥) → Fits seat posted j u → Fits seat (posted ++ more) j u
fits_more seat posted more j u reads f = record {
  posts = λ p. absurd (reads p);
  first = first_more u.known posted more f.first;
  seen = seen_more u.seen posted more f.seen;
}

pub posting : (by : ℕ) (v : Knows) (more : List Record) (new : List ℕ) → v.posts ≡ true → new ≡ glance_words (glance_of (v.known ++ more)) → slice_index new 4 < 2 ^ 48
    → Turns Kept by v (λ _. new) (adds more)
posting by v more new p e lt words views h at =
    let was = h.4 by v at in
    let mine = was.posts p in
    let now : h.1 ++ more ≡ v.known ++ more = ap (λ (l : List Record). l ++ more) (sym mine.1) in
    let w : Knows = record { posts = v.posts; known = v.known ++ more; seen = v.seen; taken = v.taken } in (
      w,
      (
        h.0,
        v.known ++ more,
        e,
        lt,
        subst (λ (l : List Record). (j : ℕ) (u : Knows) → get_elem? (set views by w) j ≡ some u → Fits h.0 l j u) now
            (fits_set h.0 (h.1 ++ more) views by w (λ j u apart there. fits_more h.0 h.1 more j u (λ k. apart (((h.4 j u there).posts k).0 ∙ sym mine.0)) (h.4 j u there))
            record {
              posts = λ _. (mine.0, sym now);
              first = ([], now ∙ sym (append-nil (v.known ++ more)));
              seen = seen_more v.seen h.1 more was.seen;
            }),
      ),
      refl,
    )

pub looking : (by : ℕ) (v : Knows) → v.posts ≡ false → Turns Kept by v (λ x. x) looked
looking by v r words views h at =
    let was = h.4 by v at in
    let rest = was.first.0 in
    let all : h.1 ≡ v.known ++ rest = was.first.1 in
    let g = glance_of (v.known ++ rest) in
    let w : Knows = record { posts = v.posts; known = v.known ++ rest; seen = v.seen ++ g ∷ []; taken = v.taken } in
    let whole : IsFirstPart (v.known ++ rest) h.1 = ([], all ∙ sym (append-nil (v.known ++ rest))) in (
      w,
      (
        h.0,
        h.1,
        h.2,
        h.3,
        fits_set h.0 h.1 views by w (λ j u _ there. h.4 j u there)
            record {
              posts = λ p. reads v r p;
              first = whole;
              seen = All-append (IsGlanceWithin h.1) v.seen (g ∷ []) was.seen (seen_one h.1 g (v.known ++ rest, whole, refl));
            },
      ),
      (rest, h.3, h.2 ∙ ap (λ (l : List Record). glance_words (glance_of l)) all, refl),
    )

pub checking : (by : ℕ) (v : Knows) → v.posts ≡ true → Turns Kept by v (λ x. x) checked
checking by v p words views h at =
    let was = h.4 by v at in
    let mine = was.posts p in (
      v,
      (h.0, h.1, h.2, h.3, λ j u there. h.4 j u (subst (λ (l : List Knows). get_elem? l j ≡ some u) (set_again views by v at) there)),
      (refl, λ _. subst (λ (l : List Record). All (IsGlanceWithin l) v.seen) (sym mine.1) was.seen),
    )

pub telling : (by : ℕ) (v : Knows) → Forks Kept by v v (told_by v)
telling by v words views h at = (
  h.0,
  h.1,
  h.2,
  h.3,
  λ j u e. ⊎_elim
      (λ was. h.4 j u (subst (λ (l : List Knows). get_elem? l j ≡ some u) (set_again views by v at) was))
      (λ (same : told_by v ≡ u). subst (Fits h.0 h.1 j) same (fits_new h.0 j h.1 v.known (h.4 by v at).first))
      (at_snoc (set views by v) (told_by v) u j e),
)

pub leaving : (by : ℕ) (v : Knows) → v.posts ≡ false → Forks Kept by v nobody v
leaving by v r words views h at =
    let was = h.4 by v at in (
      h.0,
      h.1,
      h.2,
      h.3,
      λ j u e. ⊎_elim
          (λ there. fits_set h.0 h.1 views by nobody (λ i y _ e'. h.4 i y e') (fits_nobody h.0 by h.1) j u there)
          (λ (same : v ≡ u). subst (Fits h.0 h.1 j) same record { posts = λ p. reads v r p; first = was.first; seen = was.seen })
          (at_snoc (set views by nobody) v u j e),
    )

-- what a book took is nothing to the rule
pub taking : (by : ℕ) (v : Knows) (more : List ℕ) → Forks Kept by v (takes more v) nobody
taking by v more words views h at =
    let was = h.4 by v at in (
      h.0,
      h.1,
      h.2,
      h.3,
      λ j u e. ⊎_elim
          (λ there. fits_set h.0 h.1 views by (takes more v) (λ i y _ e'. h.4 i y e') record { posts = was.posts; first = was.first; seen = was.seen } j u there)
          (λ (same : nobody ≡ u). subst (Fits h.0 h.1 j) same (fits_nobody h.0 j h.1))
          (at_snoc (set views by (takes more v)) nobody u j e),
    )

other_fits : (seat : ℕ) (posted : List Record) (views : List Knows) (by other : ℕ) (both w : Knows) → ((j : ℕ) (u : Knows) → get_elem? views j ≡ some u → Fits seat posted j u)
    → ¬ (other ≡ by) → get_elem? (set views by both) other ≡ some w → Fits seat posted other w
other_fits seat posted views by other both w each apart there =
    ⊎_elim (λ (t : (other ≡ by) × (both ≡ w)). absurd (apart t.0)) (λ (t : (other ≢ by) × (get_elem? views other ≡ some w)). each other w t.1) (at_set views by other both w there)

-- the other is spent, and this one fits
taken_in : (words : List ℕ) (views : List Knows) (by other : ℕ) (both : Knows) → (h : Kept words views) → Fits h.0 h.1 by both → Kept words (set (set views by both) other nobody)
taken_in words views by other both h mine = (
  h.0,
  h.1,
  h.2,
  h.3,
  fits_set h.0 h.1 (set views by both) other nobody
      (λ j v _ e. fits_set h.0 h.1 views by both (λ i y _ e'. h.4 i y e') mine j v e)
      (fits_nobody h.0 other h.1),
)

longer_first : (a b posted : List Record) → IsFirstPart a posted → IsFirstPart b posted → IsFirstPart (longer a b) posted
longer_first a b posted f g = go (nat_lt (length a) (length b))
  where
    go : (c : Bool) → IsFirstPart (cond c b a) posted
    go true = g
    go false = f

pub hears : (by : ℕ) (v : Knows) (other : ℕ) (w : Knows) → v.posts ≡ false → Merges Kept by v other w (hearing v w) nobody
hears by v other w r words views h at apart there =
    let was = h.4 by v at in
    let theirs = other_fits h.0 h.1 views by other (hearing v w) w h.4 apart there in
    taken_in words views by other (hearing v w) h
    record { posts = λ p. reads v r p; first = longer_first v.known w.known h.1 was.first theirs.first; seen = was.seen }

pub gathers : (by : ℕ) (v : Knows) (other : ℕ) (w : Knows) → v.posts ≡ true → Merges Kept by v other w (gathering v w) nobody
gathers by v other w p words views h at apart there =
    let was = h.4 by v at in
    let theirs = other_fits h.0 h.1 views by other (gathering v w) w h.4 apart there in
    taken_in words views by other (gathering v w) h record { posts = λ _. was.posts p; first = was.first; seen = theirs.seen }
