-- Big-endian fields: numbers as their bytes, the most significant first. M17 Protocol Specification: all integers on
-- the wire are big-endian; those of this profile's files too.
use Rattle.std.specs.Prelude.{◌≡◌, ℕ, ◌<◌, ◌^◌, List, length, take, drop, All}
use Rattle.std.specs.Int.{w16, w32, w64, to_be_bytes}

-- the two, four, six and eight bytes of a number of 16, 32, 48 and 64 bits
abbrev pub be_16 : ℕ → List ℕ
be_16 number = to_be_bytes w16 number

abbrev pub be_32 : ℕ → List ℕ
be_32 number = to_be_bytes w32 number

abbrev pub be_48 : ℕ → List ℕ
be_48 number = drop 2 (to_be_bytes w64 number)

abbrev pub be_64 : ℕ → List ℕ
be_64 number = to_be_bytes w64 number

-- the field of `size` bytes from this place on
abbrev pub field_at : ℕ → ℕ → List ℕ → List ℕ
field_at place size bytes = take size (drop place bytes)

-- each is a byte
abbrev pub IsBytes : List ℕ → Type 0
IsBytes bytes = All (λ byte. byte < 2 ^ 8) bytes

-- Numbers of `bits` bits and fields of `size` bytes give each other: no two numbers have the same bytes, and all
-- bytes of that length are those of a number.
pub record IsExactField (bits size : ℕ) (bytes_of : ℕ → List ℕ) : Type 0 where
  pub one_number : (a b : ℕ) → a < 2 ^ bits → b < 2 ^ bits → bytes_of a ≡ bytes_of b → a ≡ b
  pub each_bytes : (bytes : List ℕ) → length bytes ≡ size → IsBytes bytes
      → (number : ℕ) × (number < 2 ^ bits) × (bytes_of number ≡ bytes)

abbrev pub Fields16AreExact : Type 0
Fields16AreExact = IsExactField 16 2 be_16

abbrev pub Fields32AreExact : Type 0
Fields32AreExact = IsExactField 32 4 be_32

abbrev pub Fields48AreExact : Type 0
Fields48AreExact = IsExactField 48 6 be_48

abbrev pub Fields64AreExact : Type 0
Fields64AreExact = IsExactField 64 8 be_64
