-- What pops at the ends of a grid come to, one lot after another and row by row.
use Rattle.std.proofs.Common.{◌≡◌, ℕ, zero, suc, ◌+◌, ◌<◌, ◌≤◌, List, [], ◌∷◌, ◌++◌, map, length, set, get_or, Some, sym, refl, ap, ◌∙◌, arith}
use Rattle.std.proofs.lemmas.Option.{slice_get_within, get_or_from_slice_get}
use Rattle.std.specs.Prelude.{slice_get, option_map}
use Rattle.m17_lane.specs.Ends.{PopEnd}
use Rattle.m17_lane.specs.Rows.{pop_each, only, as_new_popper}
use Rattle.m17_lane.specs.Grids.{pop_grid, only_in}
use Rattle.m17_lane.specs.RowsLaws.{GridsPop}
use Rattle.m17_lane.proofs.Places.{in_here, in_else}
use Rattle.m17_lane.proofs.Pops.{same_from as row_same, none as row_none, twice as row_twice, law as row_law}

module _ {T : Type 0} where
  none : (f : ℕ → ℕ → List T) (k : ℕ) (rows : List (List (PopEnd T))) → ((m q : ℕ) → f m q ≡ []) → pop_grid f k rows ≡ rows
  none f k [] h = refl
  none f k (row ∷ rows) h = let first = row_none (f k) 0 row (h k) in let rest = none f (suc k) rows h in λ i. first i ∷ rest i

  -- the row is before the first
  before : (n q : ℕ) (x : T) (k : ℕ) (rows : List (List (PopEnd T))) → n < k → pop_grid (only_in n q x) k rows ≡ rows
  before n q x k [] lt = refl
  before n q x k (row ∷ rows) lt =
      let first = row_none (only_in n q x k) 0 row (λ j. in_else n q x k j (λ is. omega arith)) in
      let rest = before n q x (suc k) rows (omega arith) in λ i. first i ∷ rest i

  pub placed : (n q : ℕ) (x : T) (k : ℕ) (rows : List (List (PopEnd T))) (m : ℕ) (d : List (PopEnd T)) → n ≡ k + m → m < length rows → set rows m (pop_each (only q x) 0 (get_or rows m d)) ≡ pop_grid (only_in n q x) k rows
  placed n q x k [] m d is lt = absurd (omega arith)
  placed n q x k (row ∷ rows) zero d is lt =
      let first = row_same (only_in n q x k) (only q x) 0 row (λ j low high. in_here n q x k j (omega arith)) in
      let rest = before n q x (suc k) rows (omega arith) in λ i. sym first i ∷ sym rest i
  placed n q x k (row ∷ rows) (suc m) d is lt =
      let first = row_none (only_in n q x k) 0 row (λ j. in_else n q x k j (λ e. omega arith)) in
      let rest = placed n q x (suc k) rows m d (omega arith) (omega arith) in λ i. sym first i ∷ rest i

  one : (rows : List (List (PopEnd T))) (m q : ℕ) (row : List (PopEnd T)) (x : T) → slice_get rows m ≡ Some row → set rows m (pop_each (only q x) 0 row) ≡ pop_grid (only_in m q x) 0 rows
  one rows m q row x e =
      let is : get_or rows m row ≡ row = get_or_from_slice_get rows m row row e in
      ap (λ (r : List (PopEnd T)). set rows m (pop_each (only q x) 0 r)) (sym is)
      ∙ placed m q x 0 rows m row (omega arith) (slice_get_within rows m row e)

  twice : (f g : ℕ → ℕ → List T) (k : ℕ) (rows : List (List (PopEnd T))) → pop_grid g k (pop_grid f k rows) ≡ pop_grid (λ m q. f m q ++ g m q) k rows
  twice f g k [] = refl
  twice f g k (row ∷ rows) = let first = row_twice (f k) (g k) 0 row in let rest = twice f g (suc k) rows in λ i. first i ∷ rest i

  same_from : (f g : ℕ → ℕ → List T) (k : ℕ) (rows : List (List (PopEnd T))) → ((m q : ℕ) → k ≤ m → m < k + length rows → f m q ≡ g m q) → pop_grid f k rows ≡ pop_grid g k rows
  same_from f g k [] h = refl
  same_from f g k (row ∷ rows) h =
      let first = row_same (f k) (g k) 0 row (λ q low high. h k q (omega arith) (omega arith)) in
      let rest = same_from f g (suc k) rows (λ m q low high. h m q (omega arith) (omega arith)) in λ i. first i ∷ rest i

  same : (f g : ℕ → ℕ → List T) (rows : List (List (PopEnd T))) → ((m q : ℕ) → m < length rows → f m q ≡ g m q) → pop_grid f 0 rows ≡ pop_grid g 0 rows
  same f g rows h = same_from f g 0 rows (λ m q low high. h m q (omega arith))

  count : (f : ℕ → ℕ → List T) (k : ℕ) (rows : List (List (PopEnd T))) → length (pop_grid f k rows) ≡ length rows
  count f k [] = refl
  count f k (row ∷ rows) = ap suc (count f (suc k) rows)

  at_from : (f : ℕ → ℕ → List T) (k : ℕ) (rows : List (List (PopEnd T))) (m n : ℕ) → n ≡ k + m → slice_get (pop_grid f k rows) m ≡ option_map (pop_each (f n) 0) (slice_get rows m)
  at_from f k [] m n is = refl
  at_from f k (row ∷ rows) zero n is = let e : k ≡ n = omega arith in ap (λ (j : ℕ). Some (pop_each (f j) 0 row)) e
  at_from f k (row ∷ rows) (suc m) n is = at_from f (suc k) rows m n (omega arith)

  kept : (f : ℕ → ℕ → List T) (k : ℕ) (rows : List (List (PopEnd T))) → map (map as_new_popper) (pop_grid f k rows) ≡ map (map as_new_popper) rows
  kept f k [] = refl
  kept f k (row ∷ rows) = let first = row_law.kept (f k) 0 row in let rest = kept f (suc k) rows in λ i. first i ∷ rest i

  pub law : GridsPop T
  law = record {
    none = none;
    one = one;
    twice = twice;
    same = same;
    count = count;
    at = λ f rows m. at_from f 0 rows m m (omega arith);
    kept = kept;
  }
