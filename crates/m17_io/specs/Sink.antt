-- What a sink tells, and what a write does to its bytes.
use Rattle.std.specs.Prelude.{◌≡◌, ℕ, List, ◌++◌, take, Option, Some}

-- What a sink tells: the bytes written so far, where it tells them; how many of these it still holds back; and how often
-- it has failed.
pub record SinkTold : Type 0 where
  pub written : Option (List ℕ)
  pub held_back : ℕ
  pub faults : ℕ

-- A write that failed appended some prefix of its bytes, perhaps nothing.
abbrev pub AppendsPrefix : List ℕ → List ℕ → Option (List ℕ) → Type 0
AppendsPrefix written bytes after = (n : ℕ) × (after ≡ Some (written ++ take n bytes))
