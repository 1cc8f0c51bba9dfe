-- A printed line: its room, and hex digits in it.
use Rattle.std.specs.Prelude.{ℕ, ◌/◌, ◌%◌, ◌<◌, ◌≤◌, List, [], ◌∷◌, length, codes, slice_index}
use Rattle.std.specs.List.{flat_map}

-- how many bytes a line may have, its line feed included
abbrev pub room : ℕ
room = 224

-- how many bytes the words of a reason may have
abbrev pub reason_room : ℕ
reason_room = 16

-- Only the head of a line stands there: a number of up to 20 digits and its space, and a letter and
-- its space. There is room for what the line says, whatever that is.
abbrev pub IsBegun : List ℕ → Type 0
IsBegun line = length line ≤ 23

-- there is room for the line feed that ends a line
abbrev pub CanEnd : List ℕ → Type 0
CanEnd line = length line < room

-- a byte as two upper-case hex digits
abbrev pub hex_digits : ℕ → List ℕ
hex_digits byte =
    slice_index (codes "0123456789ABCDEF") (byte / 16) ∷ slice_index (codes "0123456789ABCDEF")
    (byte % 16) ∷ []

-- bytes as upper-case hex digits, two for each
abbrev pub hex_of : List ℕ → List ℕ
hex_of bytes = flat_map hex_digits bytes
