-- What is to come of an input: what was taken from the source, and what is left there.
use Rattle.std.specs.Prelude.{◌≡◌, ℕ, ◌≤◌, List, [], ◌++◌, length, take, drop, slice_range, Option, Some}
use Rattle.m17_book.specs.declared.cursor.Cursor.{Cursor}

-- the bytes that were read and are not passed yet
abbrev pub held : Cursor → List ℕ
held cursor = slice_range cursor.bytes cursor.start cursor.end

-- what is to come of the input: the bytes that are held, and those that are left in the source
abbrev pub IsAhead : List ℕ → Option (List ℕ) → List ℕ → Type 0
IsAhead held left ahead = (rest : List ℕ) × (left ≡ Some rest) × (ahead ≡ held ++ rest)

-- the next `count` bytes of the rest are held too; none only where there is no rest
pub record IsMoreOf (rest : List ℕ) (count : ℕ) (held held' : List ℕ)
    (left : Option (List ℕ)) : Type 0 where
  pub no_more : count ≤ length rest
  pub longer : held' ≡ held ++ take count rest
  pub rest_left : left ≡ Some (drop count rest)
  pub at_end : count ≡ 0 → rest ≡ []
