-- What stands before a reader of lines. No public clause cites this module.
use Rattle.std.specs.Prelude.{◌≡◌, ℕ, ◌<◌, ◌≤◌, List, [], ◌++◌, length, take, drop, slice_index, Option, Some}
use Rattle.m17_text_commands.specs.Lines.{AreEnded}

-- what is to come of the input: the bytes that are held, and those that are left in the source
abbrev pub IsAhead : List ℕ → Option (List ℕ) → List ℕ → Type 0
IsAhead held left ahead = (rest : List ℕ) × (left ≡ Some rest) × (ahead ≡ held ++ rest)

-- the next `count` bytes of the rest are held too; none only where there is no rest
pub record IsMoreOf (rest : List ℕ) (count : ℕ) (held held' : List ℕ) (left : Option (List ℕ)) :
    Type 0 where
  pub no_more : count ≤ length rest
  pub longer : held' ≡ held ++ take count rest
  pub rest_left : left ≡ Some (drop count rest)
  pub at_end : count ≡ 0 → rest ≡ []

-- no line ends in the bytes
abbrev pub HasNoFeed : List ℕ → Type 0
HasNoFeed bytes = AreEnded bytes 0

-- a line of `size` bytes stands first, and then its line feed
pub record BeginsWithLine (bytes : List ℕ) (size : ℕ) : Type 0 where
  pub within : size < length bytes
  pub no_feed : HasNoFeed (take size bytes)
  pub feed : slice_index bytes size ≡ 10
