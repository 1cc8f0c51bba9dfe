-- The number after a number, as the code computes it.
use Rattle.std.proofs.Common.{◌≡◌, ℕ, ◌+◌, ◌*◌, ◌%◌, ◌^◌, ap, ◌∙◌, mul_comm}
use Rattle.std.proofs.Math.Nat.{mod-add-mod}
use Rattle.m17_text_commands.specs.Draws.{next_number}

pub number_after : (x : ℕ) → (x * 6364136223846793005 % 2 ^ 64 + 1442695040888963407) % 2 ^ 64 ≡ next_number x
unfolding next_number
number_after x = mod-add-mod (x * 6364136223846793005) (2 ^ 64) 1442695040888963407
    ∙ ap (λ n. (n + 1442695040888963407) % 2 ^ 64) (mul_comm x 6364136223846793005)
