-- What it means that a buffer was filled from a source.
use Rattle.std.specs.Prelude.{◌≡◌, ℕ, ◌<◌, ◌≤◌, List, ◌++◌, length, take, drop, Option, Some}

-- So many of the bytes that were left stand at the front of the buffer, and the rest of them is
-- left. Only at the end of the bytes there is room in the buffer after them.
pub record IsFilled (bytes : List ℕ) (taken : ℕ) (buffer filled : List ℕ) (rest : Option (List ℕ))
    : Type 0 where
  pub no_more : taken ≤ length bytes
  pub front : filled ≡ take taken bytes ++ drop taken buffer
  pub rest_left : rest ≡ Some (drop taken bytes)
  pub at_end : taken < length buffer → taken ≡ length bytes

-- The source failed before the buffer was full: fewer bytes than it has room for were taken.
pub record IsCutShort (bytes : List ℕ) (size : ℕ) (rest : Option (List ℕ)) : Type 0 where
  pub taken : ℕ
  pub not_all : taken < size
  pub no_more : taken ≤ length bytes
  pub rest_left : rest ≡ Some (drop taken bytes)
