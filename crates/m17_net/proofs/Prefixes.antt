-- First parts of lists.
use Rattle.std.proofs.Common.{◌≡◌, sym, ◌∙◌, ap, ℕ, List, length, take, arith}
use Rattle.std.proofs.lemmas.List.{length-take, take_all}

pub take-within : {A : Type 0} (n : ℕ) (xs : List A) → take (length xs) (take n xs) ≡ take n xs
take-within n xs = take_all (length xs) (take n xs) (omega (arith, length-take n xs))

-- the first 64 bytes of what was found in a room of 64
pub found-first : (n : ℕ) (room whole : List ℕ) → length room ≡ 64
    → take n room ≡ take (length room) whole → take 64 (take n room) ≡ take 64 whole
found-first n room whole long e =
    ap (λ m. take m (take n room)) (sym long) ∙ take-within n room ∙ e ∙ ap (λ m. take m whole) long
