-- The parts of a stream packet's printed text.
use Rattle.std.specs.Prelude.{ℕ, Bool, List, ◌++◌, codes, decimal, if◌then◌else◌}
use Rattle.std.specs.Int.{w16, to_be_bytes}
use Rattle.m17_lsd.specs.Lsd.{text_of_type}
use Rattle.m17_lsd.specs.declared.lsd.Lsd.{Lsd}
use Rattle.m17_print.specs.Line.{hex_of}
use Rattle.m17_print.specs.Packets.{address_text}

-- the two addresses
abbrev pub ends_text : Lsd → List ℕ
ends_text lsd = codes " dst " ++ address_text lsd.dst ++ codes " src " ++ address_text lsd.src

-- TYPE, as hex digits and in words
abbrev pub type_field_text : ℕ → List ℕ
type_field_text kind = codes " type " ++ hex_of (to_be_bytes w16 kind) ++ codes " " ++ text_of_type
    kind

-- a field that is printed as hex digits alone, after its name
abbrev pub hex_field_text : List ℕ → List ℕ → List ℕ
hex_field_text name bytes = name ++ hex_of bytes

-- the number of a frame, and its end bit
abbrev pub number_text : ℕ → Bool → List ℕ
number_text number last = codes " number " ++ decimal number ++ codes " last " ++ (if last then
    codes "1" else codes "0")
