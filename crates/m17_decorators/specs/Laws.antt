-- What filling in CRCs does to packets.
use Rattle.std.specs.Prelude.{◌≡◌, ℕ, true, false, List, take}
use Rattle.m17_fields.specs.Fields.{IsBytes}
use Rattle.m17_stream.specs.Stream.{SpellsStream}
use Rattle.m17_stream.specs.declared.packet.StreamPacket.{StreamPacket}
use Rattle.m17_values.specs.declared.heard.Heard.{Heard}
use Rattle.m17_ports.specs.Ear.{EarTold}
use Rattle.m17_decorators.specs.Filled.{filled, filled_all, lacks_crc}

-- Bytes that lack a CRC spell a stream packet once they are filled in, and those before the CRC
-- stay.
abbrev pub FilledArePackets : Type 0
FilledArePackets = (bytes : List ℕ) → IsBytes bytes → lacks_crc bytes ≡ true
    → (take 52 (filled bytes) ≡ take 52 bytes)
    × ((packet : StreamPacket) × SpellsStream packet (filled bytes))

-- Bytes that spell a stream packet stay as they are.
abbrev pub PacketsStay : Type 0
PacketsStay = (packet : StreamPacket) (bytes : List ℕ) → SpellsStream packet bytes
    → filled bytes ≡ bytes

-- An ear that fills in nothing lets each entry through as it is.
abbrev pub NothingIsFilled : Type 0
NothingIsFilled = (entries : List Heard) → filled_all false entries ≡ entries

-- The first ear tells of what was heard, of faults and of its mark what the second does.
pub record IsHeardAs {K L : Type 0} (filling : EarTold K) (ear : EarTold L) : Type 0 where
  pub heard : filling.heard ≡ ear.heard
  pub faults : filling.faults ≡ ear.faults
  pub mark : filling.device.mark ≡ ear.device.mark
