-- Notes in order: how many there are, what is looked up in them, and what a further one changes.
use Rattle.std.proofs.Common.{◌≡◌, ℕ, zero, suc, ◌+◌, ◌-◌, ◌<◌, ◌≤◌, Bool, true, false, cond, List, [], ◌∷◌, All, length, get_or, set, insert, slice_get, option_and_then, Option, None, Some, inl, inr, refl, ap, sym, ◌∙◌, subst, arith, ◌==◌}
use Rattle.std.specs.List.Sorted.{IsPartitionedBy, IsPartitionPoint}
use Rattle.std.specs.Option.{option_map_or}
use Rattle.std.specs.Prelude.{nat_lt}
use Rattle.std.proofs.lemmas.Bool.{cases_eq, cases_lt, cond-true, cond-false, eq-eqb, ne_eqb, eqb-true, eqb-false, ltb-true, ltb-false, lt-ltb}
use Rattle.std.proofs.lemmas.List.{same_lists, length-set, get_or-set_same, get_or-set_other, set_past}
use Rattle.std.proofs.lemmas.List.FromFn.{length-map-range_with_len, get_or-map-range_with_len}
use Rattle.std.proofs.lemmas.Option.{slice_get-get_or, slice_get_past}
use Rattle.m17_tape.specs.declared.notes.Note.{Note}
use Rattle.m17_tape.specs.Cells.{noted, cells_of, AreRising, IsPlaceFor}

module _ {T : Type 0} where
  -- there are no more of them than numbers
  pub few : (low high : ℕ) (notes : List (Note T)) → AreRising low high notes → low ≤ high → low + length notes ≤ high
  few low high [] h le = omega arith
  few low high (note ∷ notes) h le = omega (arith, h.0, h.1, few (suc note.index) high notes h.2 (omega (arith, h.1)))

  -- none is of a number before the first, or behind the last
  none_below : (low high n : ℕ) (notes : List (Note T)) → AreRising low high notes → n < low → noted n notes ≡ None
  none_below low high n [] h lt = refl
  none_below low high n (note ∷ notes) h lt =
      cond-false (note.index == n) (Some note.what) (noted n notes) (ne_eqb note.index n (λ e. omega (arith, h.0, e)))
      ∙ none_below (suc note.index) high n notes h.2 (omega (arith, h.0))

  none_behind : (low high n : ℕ) (notes : List (Note T)) → AreRising low high notes → high ≤ n → noted n notes ≡ None
  none_behind low high n [] h le = refl
  none_behind low high n (note ∷ notes) h le =
      cond-false (note.index == n) (Some note.what) (noted n notes) (ne_eqb note.index n (λ e. omega (arith, h.1, e)))
      ∙ none_behind (suc note.index) high n notes h.2 le

  -- the numbers at places
  at_least : (low high : ℕ) (notes : List (Note T)) (k : ℕ) (d : Note T) → AreRising low high notes → k < length notes → low ≤ (get_or notes k d).index
  at_least low high [] k d h lt = absurd (omega arith)
  at_least low high (note ∷ notes) zero d h lt = h.0
  at_least low high (note ∷ notes) (suc k) d h lt = omega (arith, h.0, at_least (suc note.index) high notes k d h.2 (omega arith))

  rises : (low high : ℕ) (notes : List (Note T)) (i j : ℕ) (d : Note T) → AreRising low high notes → i ≤ j → j < length notes → (get_or notes i d).index ≤ (get_or notes j d).index
  rises low high [] i j d h le lt = absurd (omega arith)
  rises low high (note ∷ notes) zero zero d h le lt = omega arith
  rises low high (note ∷ notes) zero (suc j) d h le lt = omega (arith, at_least (suc note.index) high notes j d h.2 (omega arith))
  rises low high (note ∷ notes) (suc i) zero d h le lt = absurd (omega arith)
  rises low high (note ∷ notes) (suc i) (suc j) d h le lt = rises (suc note.index) high notes i j d h.2 (omega arith) (omega arith)

  -- what the note at a place is of
  pub noted_at : (low high : ℕ) (notes : List (Note T)) (k n : ℕ) (d : Note T) → AreRising low high notes → k < length notes → (get_or notes k d).index ≡ n → noted n notes ≡ Some (get_or notes k d).what
  noted_at low high [] k n d h lt e = absurd (omega arith)
  noted_at low high (note ∷ notes) zero n d h lt e = cond-true (note.index == n) (Some note.what) (noted n notes) (eq-eqb note.index n e)
  noted_at low high (note ∷ notes) (suc k) n d h lt e =
      cond-false (note.index == n) (Some note.what) (noted n notes) (ne_eqb note.index n (λ f. omega (arith, e, f, at_least (suc note.index) high notes k d h.2 (omega arith))))
      ∙ noted_at (suc note.index) high notes k n d h.2 (omega arith) e

  -- the place among the others
  place_further : (note : Note T) (notes : List (Note T)) (n k : ℕ) → IsPlaceFor (note ∷ notes) n (suc k) → IsPlaceFor notes n k
  place_further note notes n k p = record {
    within = omega (arith, p.within);
    before = λ i d lt. p.before (suc i) d (omega arith);
    behind = λ i d le lt. p.behind (suc i) d (omega arith) (omega arith);
  }

  -- where the note at the place for a number is of another, none is of this one
  pub none_there : (low high : ℕ) (notes : List (Note T)) (k n : ℕ) → AreRising low high notes → IsPlaceFor notes n k → ((d : Note T) → k < length notes → (get_or notes k d).index ≡ n → ⊥) → noted n notes ≡ None
  none_there low high [] k n h p other = refl
  none_there low high (note ∷ notes) zero n h p other =
      let le = p.behind 0 note (omega arith) (omega arith) in
      let lt : n < note.index = elim (cases_eq note.index n) [ inl e ↦ absurd (other note (omega arith) e) | inr ne ↦ omega (arith, le, ne) ] in
      none_below note.index high n (note ∷ notes) (omega arith, h.1, h.2) lt
  none_there low high (note ∷ notes) (suc k) n h p other =
      cond-false (note.index == n) (Some note.what) (noted n notes) (ne_eqb note.index n (λ e. omega (arith, e, p.before 0 note (omega arith))))
      ∙ none_there (suc note.index) high notes k n h.2 (place_further note notes n k p) (λ d lt e. other d (omega arith) e)

  -- a note more: in place of the one of its number, or at its place
  over : (b : Bool) (x y z : Option T) → cond b x z ≡ cond b x (cond b y z)
  over true x y z = refl
  over false x y z = refl

  turned : (a b : Bool) (x y z : Option T) → (a ≡ true → b ≡ true → ⊥) → cond a x (cond b y z) ≡ cond b y (cond a x z)
  turned true true x y z h = absurd (h refl refl)
  turned true false x y z h = refl
  turned false true x y z h = refl
  turned false false x y z h = refl

  pub noted_set : (low high : ℕ) (notes : List (Note T)) (k n : ℕ) (new : Note T) → AreRising low high notes → k < length notes → (get_or notes k new).index ≡ new.index
      → noted n (set notes k new) ≡ cond (new.index == n) (Some new.what) (noted n notes)
  noted_set low high [] k n new h lt e = absurd (omega arith)
  noted_set low high (note ∷ notes) zero n new h lt e =
      over (new.index == n) (Some new.what) (Some note.what) (noted n notes)
      ∙ ap (λ i. cond (new.index == n) (Some new.what) (cond (i == n) (Some note.what) (noted n notes))) (sym e)
  noted_set low high (note ∷ notes) (suc k) n new h lt e =
      ap (cond (note.index == n) (Some note.what)) (noted_set (suc note.index) high notes k n new h.2 (omega arith) e)
      ∙ turned (note.index == n) (new.index == n) (Some note.what) (Some new.what) (noted n notes)
      (λ a b. omega (arith, e, eqb-true note.index n a, eqb-true new.index n b, at_least (suc note.index) high notes k new h.2 (omega arith)))

  pub rising_set : (low high : ℕ) (notes : List (Note T)) (k : ℕ) (new : Note T) → AreRising low high notes → k < length notes → (get_or notes k new).index ≡ new.index → AreRising low high (set notes k new)
  rising_set low high [] k new h lt e = absurd (omega arith)
  rising_set low high (note ∷ notes) zero new h lt e =
      (omega (arith, h.0, e), omega (arith, h.1, e), subst (λ (i : ℕ). AreRising (suc i) high notes) e h.2)
  rising_set low high (note ∷ notes) (suc k) new h lt e = (h.0, h.1, rising_set (suc note.index) high notes k new h.2 (omega arith) e)

  pub noted_insert : (notes : List (Note T)) (k n : ℕ) (new : Note T) → IsPlaceFor notes new.index k
      → noted n (insert notes k new) ≡ cond (new.index == n) (Some new.what) (noted n notes)
  noted_insert [] zero n new p = refl
  noted_insert [] (suc k) n new p = absurd (omega (arith, p.within))
  noted_insert (note ∷ notes) zero n new p = refl
  noted_insert (note ∷ notes) (suc k) n new p =
      ap (cond (note.index == n) (Some note.what)) (noted_insert notes k n new (place_further note notes new.index k p))
      ∙ turned (note.index == n) (new.index == n) (Some note.what) (Some new.what) (noted n notes)
      (λ a b. omega (arith, eqb-true note.index n a, eqb-true new.index n b, p.before 0 note (omega arith)))

  pub rising_insert : (low high : ℕ) (notes : List (Note T)) (k : ℕ) (new : Note T) → AreRising low high notes → IsPlaceFor notes new.index k → ((d : Note T) → k < length notes → (get_or notes k d).index ≡ new.index → ⊥) → low ≤ new.index → new.index < high
      → AreRising low high (insert notes k new)
  rising_insert low high [] zero new h p other le lt = (le, lt, tt)
  rising_insert low high [] (suc k) new h p other le lt = absurd (omega (arith, p.within))
  rising_insert low high (note ∷ notes) zero new h p other le lt =
      let not_less = p.behind 0 note (omega arith) (omega arith) in
      let less : new.index < note.index = elim (cases_eq note.index new.index) [ inl e ↦ absurd (other note (omega arith) e) | inr ne ↦ omega (arith, not_less, ne) ] in
      (le, lt, (omega (arith, less), h.1, h.2))
  rising_insert low high (note ∷ notes) (suc k) new h p other le lt =
      let before = p.before 0 note (omega arith) in
      (h.0, h.1, rising_insert (suc note.index) high notes k new h.2 (place_further note notes new.index k p) (λ d within e. other d (omega arith) e) (omega (arith, before)) lt)

  -- what a test of the note at a place says
  is_there : (notes : List (Note T)) (k n : ℕ) → option_map_or (λ (note : Note T). note.index == n) (slice_get notes k) false ≡ true → (k < length notes) × ((d : Note T) → (get_or notes k d).index ≡ n)
  is_there [] k n e = absurd (let wrong : false ≡ true = e in cc)
  is_there (note ∷ notes) zero n e = (omega arith, λ d. eqb-true note.index n e)
  is_there (note ∷ notes) (suc k) n e =
      let rest = is_there notes k n e in
      (omega (arith, rest.0), rest.1)

  is_not : (notes : List (Note T)) (k n : ℕ) → option_map_or (λ (note : Note T). note.index == n) (slice_get notes k) false ≡ false → (d : Note T) → k < length notes → (get_or notes k d).index ≡ n → ⊥
  is_not [] k n e d lt is = absurd (omega arith)
  is_not (note ∷ notes) zero n e d lt is = eqb-false note.index n e is
  is_not (note ∷ notes) (suc k) n e d lt is = is_not notes k n e d (omega arith) is

  -- the answer to a test of the note at a place
  pub found : (notes seen : List (Note T)) (k n : ℕ) (answer : Bool) → seen ≡ notes → answer ≡ option_map_or (λ (note : Note T). note.index == n) (slice_get seen k) false → answer ≡ true → (k < length notes) × ((d : Note T) → (get_or notes k d).index ≡ n)
  found notes seen k n answer same told so = is_there notes k n (ap (λ l. option_map_or (λ (note : Note T). note.index == n) (slice_get l k) false) (sym same) ∙ sym told ∙ so)

  pub missed : (notes seen : List (Note T)) (k n : ℕ) (answer : Bool) → seen ≡ notes → answer ≡ option_map_or (λ (note : Note T). note.index == n) (slice_get seen k) false → answer ≡ false → (d : Note T) → k < length notes → (get_or notes k d).index ≡ n → ⊥
  missed notes seen k n answer same told not_so = is_not notes k n (ap (λ l. option_map_or (λ (note : Note T). note.index == n) (slice_get l k) false) (sym same) ∙ sym told ∙ not_so)

  -- where the last note is of a cell before this one, all are
  last_less : (notes : List (Note T)) (n k : ℕ) (d : Note T) → option_map_or (λ (note : Note T). nat_lt note.index n) (slice_get notes k) true ≡ true → k < length notes → (get_or notes k d).index < n
  last_less notes n k d e lt =
      ltb-true (get_or notes k d).index n (ap (λ (o : Option (Note T)). option_map_or (λ (note : Note T). nat_lt note.index n) o true) (sym (slice_get-get_or notes k d lt)) ∙ e)

  pub all_before : (high : ℕ) (notes : List (Note T)) (n : ℕ) → AreRising 0 high notes → option_map_or (λ (note : Note T). nat_lt note.index n) (slice_get notes (length notes - 1)) true ≡ true → IsPlaceFor notes n (length notes)
  all_before high notes n h e = record {
    within = omega arith;
    before = λ k d lt. omega (arith, rises 0 high notes k (length notes - 1) d h (omega arith) (omega arith), last_less notes n (length notes - 1) d e (omega arith));
    behind = λ k d le lt. absurd (omega arith);
  }

  pub parted : (high : ℕ) (notes : List (Note T)) (n : ℕ) → AreRising 0 high notes → IsPartitionedBy (λ (note : Note T). nat_lt note.index n) notes
  parted high notes n h = λ i j d le lt e. lt-ltb (get_or notes i d).index n (omega (arith, rises 0 high notes i j d h le lt, ltb-true (get_or notes j d).index n e))

  pub place_is : (notes : List (Note T)) (n k : ℕ) → k ≤ length notes → IsPartitionPoint (λ (note : Note T). nat_lt note.index n ≡ true) (λ (note : Note T). nat_lt note.index n ≡ false) notes k → IsPlaceFor notes n k
  place_is notes n k le parts = record {
    within = le;
    before = λ i d lt. ltb-true (get_or notes i d).index n (parts.0 i d (omega arith) lt);
    behind = λ i d from lt. ltb-false (get_or notes i d).index n (parts.1 i d from lt);
  }

  -- the cells, by the notes
  cell_is : (cells n : ℕ) (notes : List (Note T)) (d : Option T) → n < cells → get_or (cells_of cells notes) n d ≡ noted n notes
  cell_is cells n notes d lt = get_or-map-range_with_len (λ i. noted i notes) 0 cells n n d lt (omega arith)

  pub cell_count : (cells : ℕ) (notes : List (Note T)) → length (cells_of cells notes) ≡ cells
  cell_count cells notes = length-map-range_with_len (λ i. noted i notes) 0 cells

  pub no_cell : (cells : ℕ) → All (λ cell. cell ≡ None) (cells_of {T = T} cells [])
  no_cell cells = λ k d lt. cell_is cells k [] d (omega (arith, lt, cell_count cells []))

  pub filled : (cells n : ℕ) (what : T) (old new : List (Note T)) → n < cells → ((k : ℕ) → noted k new ≡ cond (n == k) (Some what) (noted k old)) → cells_of cells new ≡ set (cells_of cells old) n (Some what)
  filled cells n what old new within h =
      same_lists (cells_of cells new) (set (cells_of cells old) n (Some what))
      (cell_count cells new ∙ sym (length-set (cells_of cells old) n (Some what) ∙ cell_count cells old))
      (λ k d lt.
      let below : k < cells = omega (arith, lt, cell_count cells new) in
      cell_is cells k new d below ∙ h k
      ∙ elim (cases_eq k n) [
        | inl e ↦
            cond-true (n == k) (Some what) (noted k old) (eq-eqb n k (sym e))
            ∙ sym (ap (λ i. get_or (set (cells_of cells old) n (Some what)) i d) e ∙ get_or-set_same (cells_of cells old) n (Some what) d (omega (arith, within, cell_count cells old)))
        | inr ne ↦
            cond-false (n == k) (Some what) (noted k old) (ne_eqb n k (λ e. ne (sym e)))
            ∙ sym (get_or-set_other (cells_of cells old) n k (Some what) d ne ∙ cell_is cells k old d below)
      ])

  pub nothing_behind : (cells n : ℕ) (what : T) (notes : List (Note T)) → cells ≤ n → cells_of cells notes ≡ set (cells_of cells notes) n (Some what)
  nothing_behind cells n what notes le = sym (set_past (cells_of cells notes) n (Some what) (omega (arith, le, cell_count cells notes)))

  pub cell_read : (cells n : ℕ) (notes : List (Note T)) → AreRising 0 cells notes → option_and_then (λ cell. cell) (slice_get (cells_of cells notes) n) ≡ noted n notes
  cell_read cells n notes h =
      elim (cases_lt n cells) [
        | inl lt ↦
            ap (option_and_then (λ cell. cell))
            (slice_get-get_or (cells_of cells notes) n None (omega (arith, lt, cell_count cells notes)) ∙ ap Some (cell_is cells n notes None lt))
        | inr le ↦
            ap (option_and_then (λ cell. cell)) (slice_get_past (cells_of cells notes) n (omega (arith, le, cell_count cells notes)))
            ∙ sym (none_behind 0 cells n notes h le)
      ]
