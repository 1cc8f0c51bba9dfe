-- What a new grid is made of.
use Rattle.std.specs.Prelude.{◌≡◌, ℕ, List, All, length, slice_get, Some}
use Rattle.m17_lane.specs.Ends.{PushEnd, PopEnd, new_popper, new_pushers}
use Rattle.m17_lane.specs.Rows.{IsNewRow}
use Rattle.m17_lane.specs.Columns.{row_at, IsGrid}

module _ {T : Type 0} where
  -- A grid of new lanes of that capacity, with a column for each producer: each lane's row is its new
  -- pushers, numbered in the order of the columns.
  pub record IsLaid (producers capacity : ℕ) (columns : List (List (PushEnd T)))
      (poppers : List (PopEnd T)) : Type 0 where
    pub grid : IsGrid columns poppers
    pub count : length columns ≡ producers
    pub new : All IsNewRow columns
    pub rows : (m : ℕ) (p : PopEnd T) → slice_get poppers m ≡ Some p
        → (p ≡ new_popper p.lane capacity producers)
        × (row_at m columns ≡ new_pushers p producers)
