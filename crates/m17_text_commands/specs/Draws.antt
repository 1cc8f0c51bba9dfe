-- The numbers that an evening is drawn from: 64 bits, the seed first and then each from the one before it.
use Rattle.std.specs.Prelude.{ℕ, zero, suc, ◌+◌, ◌*◌, ◌/◌, ◌%◌, ◌^◌}

-- the number that comes after this one
unfoldable pub next_number : ℕ → ℕ
next_number x = (6364136223846793005 * x + 1442695040888963407) % 2 ^ 64

-- the number after n draws, each of which goes on by one number
unfoldable pub number_after : ℕ → ℕ → ℕ
number_after seed zero = seed
number_after seed (suc n) = next_number (number_after seed n)

-- What is drawn of 0 to k - 1 after this number: the high 31 bits of the next one, counted round k.
unfoldable pub drawn_after : ℕ → ℕ → ℕ
drawn_after k x = next_number x / 2 ^ 33 % k

-- Draw n of an evening, counted from 0, of one of k.
abbrev pub draw : ℕ → ℕ → ℕ → ℕ
draw seed n k = drawn_after k (number_after seed n)
