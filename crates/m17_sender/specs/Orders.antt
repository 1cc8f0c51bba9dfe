-- One order of two lists.
use Rattle.std.specs.Prelude.{◌≡◌, Bool, not, List, map, filter}

-- The whole has the items of both lists and no others, those of each in its order: each item of the
-- whole is marked as one of the first list or one of the second.
pub record IsShuffle {T : Type 0} (first second whole : List T) : Type 0 where
  pub marked : List (Bool × T)
  pub whole_is : whole ≡ map (λ m. m.1) marked
  pub first_is : first ≡ map (λ m. m.1) (filter (λ m. m.0) marked)
  pub second_is : second ≡ map (λ m. m.1) (filter (λ m. not m.0) marked)
