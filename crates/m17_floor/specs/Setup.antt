-- What a floor is made with.
use Rattle.std.specs.Prelude.{ℕ}

-- what a module's floor is made with: the number of the module's places, and how long one may talk,
-- in milliseconds, 0 for no limit
pub record FloorSetup : Type 0 where
  pub places : ℕ
  pub limit : ℕ

abbrev pub floor_setup : ℕ → ℕ → FloorSetup
floor_setup places limit = record { places = places; limit = limit }
