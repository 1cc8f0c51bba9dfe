-- The printed text of a refusal.
use Rattle.std.specs.Prelude.{ℕ, List, ◌++◌, codes, decimal}
use Rattle.std.specs.Int.{w16, to_be_bytes}
use Rattle.m17_stream.specs.declared.packet.StreamRefusal.{StreamRefusal}
use Rattle.m17_stream.specs.declared.packet.StreamRefusal.TheVariants as stream
use Rattle.m17_print.specs.Line.{hex_of}

abbrev pub length_text : ℕ → List ℕ
length_text n = codes "refused length " ++ decimal n

abbrev pub magic_text : List ℕ → List ℕ
magic_text magic = codes "refused magic " ++ hex_of magic

-- the field that was found, and the CRC that was expected
abbrev pub crc_text : ℕ → ℕ → List ℕ
crc_text found expected = codes "refused crc " ++ hex_of (to_be_bytes w16 found) ++ codes " " ++
    hex_of (to_be_bytes w16 expected)

-- why bytes are no stream packet
abbrev pub stream_refusal_text : StreamRefusal → List ℕ
stream_refusal_text (stream.Length n) = length_text n
stream_refusal_text (stream.Magic m) = magic_text m
stream_refusal_text (stream.Crc found expected) = crc_text found expected
