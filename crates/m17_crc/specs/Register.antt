-- The 16 bits that a division keeps while it goes along a dividend, as a number.
use Rattle.std.specs.Prelude.{ℕ, ◌+◌, ◌*◌, ◌%◌, ◌^◌, fold, bit_xor}
use Rattle.std.specs.Int.{bit_at}
use Rattle.m17_crc.specs.Crc.{byte_bits}

-- The register after one more bit of the dividend: all move up by one place, and the low 16 bits of the divisor are
-- subtracted where the digit of the quotient, the bit that leaves less the bit that comes, is 1.
unfoldable pub after_bit : ℕ → ℕ → ℕ
after_bit register bit = bit_xor (2 * register % 2 ^ 16) (0x5935 * ((bit + bit_at register 15) % 2))

-- the register after the bits of one more byte
unfoldable pub after_byte : ℕ → ℕ → ℕ
after_byte register byte = fold after_bit register (byte_bits byte)
