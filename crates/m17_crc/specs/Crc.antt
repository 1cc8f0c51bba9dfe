-- The CRC of bytes, as a remainder. M17 Protocol Specification, CRC.
use Rattle.std.specs.Prelude.{◌==◌, ℕ, zero, suc, ◌+◌, ◌-◌, ◌*◌, ◌%◌, List, [], ◌∷◌, ◌++◌, length, drop, map, fold, replicate, slice_index, if◌then◌else◌}
use Rattle.std.specs.List.{range_with_len, flat_map}
use Rattle.std.specs.Int.{bit_at}

-- the bits of a byte, the most significant first
abbrev pub byte_bits : ℕ → List ℕ
byte_bits byte = map (λ k. bit_at byte (7 - k)) (range_with_len 0 8)

-- the bits of all bytes
abbrev pub bits_of : List ℕ → List ℕ
bits_of bytes = flat_map byte_bits bytes

-- `bits`, with `taken` subtracted from its first ones, bit by bit and without carry: 1 less 1 is 0, and 0 less 1 is 1.
-- The bits past `taken` stay.
abbrev pub less_front : List ℕ → List ℕ → List ℕ
less_front [] bits = bits
less_front (t ∷ taken) [] = []
less_front (t ∷ taken) (b ∷ bits) = (b + t) % 2 ∷ less_front taken bits

-- the 17 bits of 1 5935 hex: x^16 and 0x5935
abbrev pub divisor : List ℕ
divisor = 1 ∷ byte_bits 0x59 ++ byte_bits 0x35

-- Long division, for a given number of digits of the quotient: the divisor is subtracted where the first bit is 1, and then the
-- first bit, which is 0, is left behind. What is left after the last digit is the remainder.
unfoldable pub remainder : ℕ → List ℕ → List ℕ
remainder zero bits = bits
remainder (suc digits) bits =
    remainder digits (drop 1 (if slice_index bits 0 == 1 then less_front divisor bits else bits))

-- the number that bits spell, the most significant first
abbrev pub number_of : List ℕ → ℕ
number_of bits = fold (λ n b. 2 * n + b) 0 bits

-- the bits, then 16 zero bits, with the first 16 of all these inverted
abbrev pub dividend : List ℕ → List ℕ
dividend bytes = less_front (replicate 16 1) (bits_of bytes ++ replicate 16 0)

-- The CRC of bytes: the remainder of their dividend.
unfoldable pub crc_of : List ℕ → ℕ
crc_of bytes = number_of (remainder (8 * length bytes) (dividend bytes))
