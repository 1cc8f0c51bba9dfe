-- What follows from the definitions for every grid, for callers to cite by name.
use Rattle.std.specs.Prelude.{◌≡◌, ◌<◌, ℕ, List, [], ◌∷◌, ◌++◌, length, map, All, replicate, slice_get, Some}
use Rattle.std.specs.List.{AllZip}
use Rattle.m17_lane.specs.Ends.{PushEnd, PopEnd, TrailEnd, AreOf, logs_of, new_pushers}
use Rattle.m17_lane.specs.Orders.{items_of}
use Rattle.m17_lane.specs.Rows.{push_each, IsSameRow, IsSamePopRow}
use Rattle.m17_lane.specs.Columns.{each_with, row_at, push_grid, IsGrid, numbered}
use Rattle.m17_lane.specs.Trails.{IsTrailOf}
use Rattle.m17_lane.specs.Interleavings.{IsInterleaving}

-- How a grid comes to be: from empty columns, by the row of one more lane; and it stays one whatever
-- goes through its ends.
pub record GridsStand (T : Type 0) : Type 0 where
  pub empty : (n : ℕ) → IsGrid {T = T} (replicate n []) []
  pub dealt : (columns : List (List (PushEnd T))) (poppers : List (PopEnd T))
      (row : List (PushEnd T)) (p : PopEnd T) → IsGrid columns poppers → AreOf p.lane row → length row ≡ length columns
      → p.producers ≡ length columns → IsGrid (each_with columns row) (poppers ++ p ∷ [])
  pub stays : (columns columns' : List (List (PushEnd T))) (poppers poppers' : List (PopEnd T))
      → AllZip IsSameRow columns columns' → IsSamePopRow poppers poppers'
      → IsGrid columns poppers → IsGrid columns' poppers'
  pub pushed : (f : ℕ → ℕ → List T) (k : ℕ) (columns : List (List (PushEnd T)))
      → AllZip IsSameRow columns (push_grid f k columns)
  pub by_column : (f : ℕ → ℕ → List T) (columns columns' : List (List (PushEnd T)))
      → length columns' ≡ length columns
      → ((i : ℕ) (c c' : List (PushEnd T)) → slice_get columns i ≡ Some c
      → slice_get columns' i ≡ Some c' → c' ≡ push_each (f i) 0 c)
      → columns' ≡ push_grid f 0 columns

-- The rows of a grid: the one that was dealt last, those before it, what pushes make of one, and how
-- many ends it has; and what the logs of a lane show whose ends were new.
pub record RowsStand (T : Type 0) : Type 0 where
  pub last : (columns : List (List (PushEnd T))) (row : List (PushEnd T)) (m : ℕ)
      → All (λ column. length column ≡ m) columns → length row ≡ length columns
      → row_at m (each_with columns row) ≡ row
  pub others : (columns : List (List (PushEnd T))) (row : List (PushEnd T)) (m : ℕ)
      → All (λ column. m < length column) columns → length row ≡ length columns
      → row_at m (each_with columns row) ≡ row_at m columns
  pub pushed : (f : ℕ → ℕ → List T) (columns : List (List (PushEnd T))) (m : ℕ)
      → All (λ column. m < length column) columns
      → row_at m (push_grid f 0 columns) ≡ push_each (λ i. f i m) 0 (row_at m columns)
  pub count : (columns : List (List (PushEnd T))) (m : ℕ)
      → All (λ column. m < length column) columns → length (row_at m columns) ≡ length columns
  pub logs : (f : ℕ → List T) (p : PopEnd T) (n : ℕ)
      → logs_of (push_each f 0 (new_pushers p n)) ≡ numbered f n

-- Where f tells of each item the place of the pusher that pushed it, the order of a finished lane is
-- one interleaving of what its pushers pushed.
abbrev pub OrderIsInterleaving : (T : Type 0) → Type 0
OrderIsInterleaving T =
    (f : T → ℕ) (row : List (PushEnd T)) (p : PopEnd T) (t : TrailEnd T) → IsTrailOf row p t
    → ((i : ℕ) (q : PushEnd T) → slice_get row i ≡ Some q → All (λ x. f x ≡ i) q.pushed)
    → IsInterleaving f (map (λ q. q.pushed) row) (items_of t.order)
