-- Grids: rows of rows of ends that pop, each end named by its row and its place in that row.
use Rattle.std.specs.Prelude.{◌≡◌, ℕ, suc, ◌==◌, if◌then◌else◌, List, [], ◌∷◌, map, All}
use Rattle.m17_lane.specs.Ends.{PopEnd}
use Rattle.m17_lane.specs.Rows.{pop_each, only, IsNewPopRow, as_new_popper}

module _ {T : Type 0} where
  -- The end at place q of row m, rows counted from k, has popped f m q too.
  abbrev pub pop_grid : (ℕ → ℕ → List T) → ℕ → List (List (PopEnd T)) → List (List (PopEnd T))
  pop_grid f k [] = []
  pop_grid f k (row ∷ rows) = pop_each (f k) 0 row ∷ pop_grid f (suc k) rows

  -- x alone at place q of row m, and nothing anywhere else.
  abbrev pub only_in : ℕ → ℕ → T → ℕ → ℕ → List T
  only_in m q x i j = if i == m then only q x j else []

  -- No end of the grid has popped anything.
  abbrev pub IsNewGrid : List (List (PopEnd T)) → Type 0
  IsNewGrid rows = All IsNewPopRow rows

  -- The same ends of the same lanes at the same places, whatever went through them.
  abbrev pub IsSameGrid : List (List (PopEnd T)) → List (List (PopEnd T)) → Type 0
  IsSameGrid before after = map (map as_new_popper) after ≡ map (map as_new_popper) before
