-- How texts of peers are read back. For proofs alone.
use Rattle.std.specs.Prelude.{ℕ, ◌+◌, ◌-◌, ◌*◌, List, ◌&&◌, nat_le, slice_index, if◌then◌else◌}
use Rattle.std.specs.Char.{IsAsciiDigit}

-- no digit stands at the front
abbrev pub EndsNumber : List ℕ → Type 0
EndsNumber rest = IsAsciiDigit (slice_index rest 0) → ⊥

-- the value of a lower-case hex digit
abbrev pub nibble_value : ℕ → ℕ
nibble_value c =
    if nat_le 48 c && nat_le c 57 then c - 48 else
    (if nat_le 97 c && nat_le c 102 then c - 87 else 0)

-- the byte of the two hex digits at a place
abbrev pub pair_value : List ℕ → ℕ → ℕ
pair_value bytes at =
    16 * nibble_value (slice_index bytes at) + nibble_value (slice_index bytes (at + 1))
