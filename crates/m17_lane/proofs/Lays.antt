-- One lane more in a new grid.
use Rattle.std.proofs.Common.{◌≡◌, ℕ, zero, suc, ◌+◌, ◌⊎◌, inl, inr, ⊎_elim, List, [], ◌∷◌, ◌++◌, map, length, All, Some, sym, subst, refl, ap, ◌∙◌, arith}
use Rattle.std.proofs.lemmas.Option.{same_Some, none-some, slice_get_within}
use Rattle.std.proofs.lemmas.List.Elements.{All-push, All-from_recursion, recursion_from_All}
use Rattle.std.specs.Prelude.{slice_get}
use Rattle.std.specs.List.{AllByRecursion, AllZip}
use Rattle.atomic_table.specs.Seated.{TableId}
use Rattle.m17_lane.specs.Ends.{PushEnd, PopEnd, AreOf, new_popper, new_pusher, new_pushers}
use Rattle.m17_lane.specs.Rows.{IsNewRow, IsNewPusher}
use Rattle.m17_lane.specs.Columns.{each_with, row_at, lanes_of}
use Rattle.m17_lane.specs.Laid.{IsLaid}
use Rattle.m17_lane.proofs.Returns.{all_long, longer_than}
use Rattle.m17_lane.proofs.Stands.{each_count, last_row, other_rows, new_count, dealt}

module _ {A : Type 0} where
  at_snoc : (l : List A) (a b : A) (j : ℕ) → slice_get (l ++ a ∷ []) j ≡ Some b → (slice_get l j ≡ Some b) ⊎ ((j ≡ length l) × (a ≡ b))
  at_snoc [] a b zero e = inr (refl, same_Some a b e)
  at_snoc [] a b (suc j) e = absurd (none-some b e)
  at_snoc (x ∷ xs) a b zero e = inl e
  at_snoc (x ∷ xs) a b (suc j) e = ⊎_elim (λ h. inl h) (λ (h : (j ≡ length xs) × (a ≡ b)). inr (ap suc h.0, h.1)) (at_snoc xs a b j e)

module _ {T : Type 0} where
  of_snoc : (lane : TableId) (ps : List (PushEnd T)) (p : PushEnd T) → AreOf lane ps → p.lane ≡ lane → AreOf lane (ps ++ p ∷ [])
  of_snoc lane [] p h e = (e, tt)
  of_snoc lane (q ∷ ps) p h e = (h.0, of_snoc lane ps p h.1 e)

  of_new : (p : PopEnd T) (n : ℕ) → AreOf p.lane (new_pushers p n)
  of_new p zero = tt
  of_new p (suc n) = of_snoc p.lane (new_pushers p n) (new_pusher p n) (of_new p n) refl

  none_snoc : (ps : List (PushEnd T)) (p : PushEnd T) → AllByRecursion IsNewPusher ps → IsNewPusher p → AllByRecursion IsNewPusher (ps ++ p ∷ [])
  none_snoc [] p h e = (e, tt)
  none_snoc (q ∷ ps) p h e = (h.0, none_snoc ps p h.1 e)

  none_pushed : (p : PopEnd T) (n : ℕ) → AllByRecursion IsNewPusher (new_pushers p n)
  none_pushed p zero = tt
  none_pushed p (suc n) = none_snoc (new_pushers p n) (new_pusher p n) (none_pushed p n) (refl, refl)

  new_columns : (cols : List (List (PushEnd T))) (row : List (PushEnd T)) → AllByRecursion IsNewRow cols → AllByRecursion IsNewPusher row → length row ≡ length cols → AllByRecursion IsNewRow (each_with cols row)
  new_columns [] row h e long = tt
  new_columns (c ∷ cols) [] h e long = absurd (omega arith)
  new_columns (c ∷ cols) (q ∷ row) h e long = (All-push IsNewPusher c q h.0 e.0, new_columns cols row h.1 e.1 (omega arith))

  laid_more : (n capacity : ℕ) (cols : List (List (PushEnd T))) (ps : List (PopEnd T)) (p : PopEnd T) (row : List (PushEnd T)) → IsLaid n capacity cols ps → p ≡ new_popper p.lane capacity n → row ≡ new_pushers p n → IsLaid n capacity (each_with cols row) (ps ++ p ∷ [])
  laid_more n capacity cols ps p row h popper pushers =
      let long : length row ≡ length cols = ap length pushers ∙ new_count p n ∙ sym h.count in
      let of = subst (λ (r : List (PushEnd T)). AreOf p.lane r) (sym pushers) (of_new p n) in
      let fresh = subst (λ (r : List (PushEnd T)). AllByRecursion IsNewPusher r) (sym pushers) (none_pushed p n) in
      let made : p.producers ≡ length cols = ap (λ (q : PopEnd T). q.producers) popper ∙ sym h.count in
      let longs = all_long cols ps h.grid in record {
        grid = dealt cols ps row p h.grid of long made;
        count = each_count cols row long ∙ h.count;
        new = All-from_recursion IsNewRow (each_with cols row) (new_columns cols row (recursion_from_All IsNewRow cols h.new) fresh long);
        rows = λ m q e. ⊎_elim
            (λ (old : slice_get ps m ≡ Some q). let was = h.rows m q old in (
              was.0,
              other_rows cols row m (longer_than cols (length ps) m (slice_get_within ps m q old) longs) long ∙ was.1,
            ))
            (λ (last : (m ≡ length ps) × (p ≡ q)). subst (λ (r : PopEnd T). (r ≡ new_popper r.lane capacity n) × (row_at m (each_with cols row) ≡ new_pushers r n)) last.1 (
              popper,
              last_row cols row m (subst (λ (k : ℕ). AllByRecursion (λ c. length c ≡ k) cols) (sym last.0) longs) long ∙ pushers,
            ))
            (at_snoc ps p q m e);
      }

  pub laid_next : (n capacity : ℕ) (cols next : List (List (PushEnd T))) (ps more : List (PopEnd T)) (p : PopEnd T) (row : List (PushEnd T)) → IsLaid n capacity cols ps → p ≡ new_popper p.lane capacity n → row ≡ new_pushers p n → next ≡ each_with cols row → more ≡ ps ++ p ∷ [] → IsLaid n capacity next more
  laid_next n capacity cols next ps more p row h popper pushers is came =
      subst (λ (cs : List (List (PushEnd T))). IsLaid n capacity cs more) (sym is)
      (subst (λ (qs : List (PopEnd T)). IsLaid n capacity (each_with cols row) qs) (sym came) (laid_more n capacity cols ps p row h popper pushers))

  no_lanes : (cols : List (List (PushEnd T))) → AllByRecursion (λ c. c ≡ []) cols → AllByRecursion (λ c. lanes_of c ≡ []) cols
  no_lanes [] h = tt
  no_lanes (c ∷ cols) h = (ap lanes_of h.0, no_lanes cols h.1)

  none_new : (cols : List (List (PushEnd T))) → AllByRecursion (λ c. c ≡ []) cols → AllByRecursion IsNewRow cols
  none_new [] h = tt
  none_new (c ∷ cols) h = (subst (λ (l : List (PushEnd T)). IsNewRow l) (sym h.0) (λ k d lt. absurd (omega arith)), none_new cols h.1)

  pub laid_none : (n capacity : ℕ) (cols : List (List (PushEnd T))) → length cols ≡ n → AllByRecursion (λ c. c ≡ []) cols → IsLaid n capacity cols []
  laid_none n capacity cols count h = record {
    grid = record {
      lanes = All-from_recursion (λ c. lanes_of c ≡ []) cols (no_lanes cols h);
      producers = λ k d lt. absurd (omega arith);
    };
    count = count;
    new = All-from_recursion IsNewRow cols (none_new cols h);
    rows = λ m p e. absurd (none-some p e);
  }

-- columns of a list whose members show them by `items`
module _ {V A : Type 0} (items : V → List A) where
  pub shown_empty : (vs : List V) → AllByRecursion (λ v. items v ≡ []) vs → AllByRecursion (λ c. c ≡ []) (map items vs)
  shown_empty [] h = tt
  shown_empty (v ∷ vs) h = (h.0, shown_empty vs h.1)

-- how each member changes that has one item more
module _ {V : Type 0} (size room : V → ℕ) where
  grown : (old now : List V) (k n : ℕ) → AllZip (λ was is. (size is ≡ size was + 1) × (room is ≡ room was)) old now → AllByRecursion (λ v. (size v ≡ k) × (room v ≡ n)) old → AllByRecursion (λ v. (size v ≡ k + 1) × (room v ≡ n)) now
  grown [] [] k n z h = tt
  grown [] (v ∷ now) k n z h = absurd z
  grown (o ∷ old) [] k n z h = absurd z
  grown (o ∷ old) (v ∷ now) k n z h = ((omega (arith, z.0.0, h.0.0), omega (arith, z.0.1, h.0.1)), grown old now k n z.1 h.1)

  pub one_more : (old now : List V) (k n : ℕ) → AllZip (λ was is. (size is ≡ size was + 1) × (room is ≡ room was)) old now → All (λ v. (size v ≡ k) × (room v ≡ n)) old → All (λ v. (size v ≡ k + 1) × (room v ≡ n)) now
  one_more old now k n z h =
      All-from_recursion (λ v. (size v ≡ k + 1) × (room v ≡ n)) now
      (grown old now k n z (recursion_from_All (λ v. (size v ≡ k) × (room v ≡ n)) old h))
