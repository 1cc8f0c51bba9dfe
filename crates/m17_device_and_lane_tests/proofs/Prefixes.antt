-- First parts of lists.
use Rattle.std.proofs.Common.{◌≡◌, ℕ, List, length, take, arith}
use Rattle.std.proofs.lemmas.List.{length-take, take_all}

pub take-within : {A : Type 0} (n : ℕ) (xs : List A) → take (length xs) (take n xs) ≡ take n xs
take-within n xs = take_all (length xs) (take n xs) (omega (arith, length-take n xs))
