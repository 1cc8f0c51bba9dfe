-- What contracts see of a crew.
use Rattle.std.specs.Prelude.{ℕ, List}

-- A crew: the numbers of the starts that it refuses of itself, how many starts there were, and how
-- many were refused.
pub record CrewKept : Type 0 where
  pub refuses : List ℕ
  pub starts : ℕ
  pub refusals : ℕ

-- A crew that has started nothing.
abbrev pub new_crew : List ℕ → CrewKept
new_crew refuses = record { refuses = refuses; starts = 0; refusals = 0 }
