-- How a module was made.
use Rattle.std.specs.Prelude.{ℕ, Bool}
use Rattle.m17_floor.specs.Setup.{FloorSetup}

-- How a module was made: its number of places, whether it is a parrot, and its limit on talking, in milliseconds, or 0
-- for none.
pub record Setup : Type 0 where
  pub places : ℕ
  pub parrot : Bool
  pub limit : ℕ

-- What its floor is made with.
abbrev pub floor_setup : Setup → FloorSetup
floor_setup setup = record { places = setup.places; limit = setup.limit }
