-- What an array borrowed from a slice holds.
use Rattle.std.proofs.Common.{◌≡◌, ℕ, List, Option, Some, MatchOption}
use Rattle.std.specs.Array.{IsWholeChunk}
use Rattle.std.specs.Borrow.{Bor}

-- the chunk that was unwrapped
pub chunk : (r : Option (Bor (List ℕ))) (x : Bor (List ℕ)) (xs : List ℕ) (n : ℕ) (P : Type 0)
    → r ≡ Some x → MatchOption r P (λ y. IsWholeChunk xs y.now n) → x.now ≡ xs
chunk r x xs n P e h = let k = rw e at h in k.same
