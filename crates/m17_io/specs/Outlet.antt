-- What an outlet tells, and what leaves by it.
use Rattle.std.specs.Prelude.{List, ℕ, ◌++◌, Option, None, Some}

-- What an outlet tells: the bytes that have left, where it tells them, and how often it has failed.
pub record OutletTold : Type 0 where
  pub sent : Option (List ℕ)
  pub faults : ℕ

-- the bytes that have left, where they are told, and then these
abbrev pub followed_by : Option (List ℕ) → List ℕ → Option (List ℕ)
followed_by None more = None
followed_by (Some bytes) more = Some (bytes ++ more)
