-- For proofs: what a change of one cell comes to for all.
use Rattle.std.specs.Prelude.{◌≡◌, ℕ, ◌<◌, List, [], ◌++◌, map, length, slice_get, Option, Some}
use Rattle.m17_control.specs.declared.item.Item.{Item}
use Rattle.m17_lane.specs.Grids.{only_in}
use Rattle.m17_sender.specs.Places.{held_at}

-- the grid has this place
pub record HasPlace {A : Type 0} (rows : List (List A)) (m q : ℕ) : Type 0 where
  pub row : List A
  pub is_row : slice_get rows m ≡ Some row
  pub within : q < length row

-- the second grid holds one item more, at this place, where the first holds none
pub record HoldsMore (less more : List (List (Option Item))) (m q : ℕ) (item : Item) : Type 0 where
  pub each : (a b : ℕ) → held_at more a b ≡ held_at less a b ++ only_in m q item a b
  pub free : held_at less m q ≡ []
  pub shape : map length more ≡ map length less
