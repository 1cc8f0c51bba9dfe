-- What a source tells, and what a read does to its bytes.
use Rattle.std.specs.Prelude.{◌≡◌, ℕ, Bool, ◌<◌, ◌≤◌, List, [], ◌++◌, length, take, drop, Option, Some}

-- What a source tells: the bytes that are left, where it tells them; whether the next read is answered from what is at
-- hand, so that it does not wait for the outside; and how often it has failed.
pub record SourceTold : Type 0 where
  pub left : Option (List ℕ)
  pub at_hand : Bool
  pub faults : ℕ

-- A read took the first n of the bytes that were left, and wrote them at the front of the buffer.
-- It takes nothing into a buffer with room only where nothing is left.
pub record Takes (left : List ℕ) (n : ℕ) (buffer filled : List ℕ)
    (rest : Option (List ℕ)) : Type 0 where
  pub no_more : n ≤ length left
  pub filled_front : filled ≡ take n left ++ drop n buffer
  pub rest_left : rest ≡ Some (drop n left)
  pub at_end : n ≡ 0 → 0 < length buffer → left ≡ []
