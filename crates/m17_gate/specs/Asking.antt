-- What a packet asks of a gate, and what the bytes of a datagram ask.
use Rattle.std.specs.Prelude.{◌==◌, ◌&&◌, ℕ, Bool, List, ◌∷◌, length, take, drop, codes, slice_index, nat_le, is_some, Option, None, Some, if◌then◌else◌}
use Rattle.std.specs.Int.{w64, from_be_bytes}
use Rattle.std.specs.Str.{bytes_eq}
use Rattle.m17_fields.specs.Fields.{be_16, field_at}
use Rattle.m17_crc.specs.Crc.{crc_of}
use Rattle.m17_callsign.specs.Letters.{callsign_of}
use Rattle.m17_control.specs.declared.packet.Control.TheVariants.{Conn, Lstn}
use Rattle.m17_control.specs.declared.packet.Packet.{Packet}
use Rattle.m17_control.specs.declared.packet.Packet.TheVariants.{Stream, Control}
use Rattle.m17_gate.specs.declared.asked.Asked.{Asked}
use Rattle.m17_gate.specs.declared.asked.Asked.TheVariants.{Connects, Listens, Talks}

-- What the packet asks; nothing where it is of another kind.
abbrev pub asked_by : Packet → Option Asked
asked_by (Stream packet) = Some (Talks packet.lsd.src)
asked_by (Control (Conn from letter)) = Some (Connects from letter)
asked_by (Control (Lstn from letter)) = Some (Listens from letter)
asked_by (Control _) = None

-- the address in the six bytes from this place on
abbrev pub address_at : ℕ → List ℕ → ℕ
address_at place bytes = from_be_bytes w64 (0 ∷ 0 ∷ field_at place 6 bytes)

-- The bytes are a CONN or a LSTN, by their first four: they have a callsign and the letter of a
-- module.
abbrev pub is_joining : List ℕ → List ℕ → Bool
is_joining magic bytes = length bytes == 11 && bytes_eq (take 4 bytes) magic
    && is_some (callsign_of (address_at 4 bytes))
    && (nat_le 65 (slice_index bytes 10) && nat_le (slice_index bytes 10) 90)

-- The bytes are a stream packet: at their end stands the CRC of those before it.
abbrev pub is_talking : List ℕ → Bool
is_talking bytes = length bytes == 54 && bytes_eq (take 4 bytes) (codes "M17 ")
    && bytes_eq (drop 52 bytes) (be_16 (crc_of (take 52 bytes)))

-- What these bytes ask: what the packet asks that they spell, and nothing where they spell none.
unfoldable pub asked_in : List ℕ → Option Asked
asked_in bytes =
    if is_joining (codes "CONN") bytes
    then Some (Connects (address_at 4 bytes) (slice_index bytes 10)) else
    (if is_joining (codes "LSTN") bytes
    then Some (Listens (address_at 4 bytes) (slice_index bytes 10)) else
    (if is_talking bytes then Some (Talks (address_at 12 bytes)) else None))
