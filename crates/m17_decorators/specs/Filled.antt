-- Datagrams whose CRC was left at 0, and what they are with their CRC.
use Rattle.std.specs.Prelude.{◌==◌, ◌&&◌, ℕ, Bool, true, false, List, [], ◌∷◌, ◌++◌, length, take, drop, map, if◌then◌else◌}
use Rattle.std.specs.Str.{bytes_eq}
use Rattle.m17_fields.specs.Fields.{be_16}
use Rattle.m17_crc.specs.Crc.{crc_of}
use Rattle.m17_stream.specs.Stream.{magic}
use Rattle.m17_values.specs.declared.heard.Heard.{Heard}
use Rattle.m17_values.specs.declared.heard.Heard.TheVariants.{Datagram, Quiet, Fault, End}

-- The bytes are as many as a stream packet has, begin as one, and where its CRC stands are zeros.
abbrev pub lacks_crc : List ℕ → Bool
lacks_crc bytes = length bytes == 54 && bytes_eq (take 4 bytes) magic
    && bytes_eq (drop 52 bytes) (0 ∷ 0 ∷ [])

-- the first 52 bytes, and their CRC
abbrev pub with_crc : List ℕ → List ℕ
with_crc bytes = take 52 bytes ++ be_16 (crc_of (take 52 bytes))

-- The bytes with their CRC where they lack one; all others as they are.
abbrev pub filled : List ℕ → List ℕ
filled bytes = if lacks_crc bytes then with_crc bytes else bytes

-- What an ear that fills in CRCs makes of an entry, and one that doesn't.
abbrev pub filled_entry : Bool → Heard → Heard
filled_entry true (Datagram from moment bytes) = Datagram from moment (filled bytes)
filled_entry true (Quiet moment) = Quiet moment
filled_entry true Fault = Fault
filled_entry true End = End
filled_entry false heard = heard

abbrev pub filled_all : Bool → List Heard → List Heard
filled_all fills entries = map (filled_entry fills) entries
