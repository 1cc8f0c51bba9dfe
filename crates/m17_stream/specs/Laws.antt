-- Stream packets and their bytes give each other. M17 Protocol Specification, IP networking.
use Rattle.std.specs.Prelude.{◌≡◌, ℕ, List}
use Rattle.m17_fields.specs.Fields.{IsBytes}
use Rattle.m17_fields.specs.Reading.{HasOneReading}
use Rattle.m17_stream.specs.Stream.{SpellsStream, RefusesStream}
use Rattle.m17_stream.specs.declared.packet.StreamPacket.{StreamPacket}

-- two packets that the same bytes spell are one
abbrev pub OneSpelling : Type 0
OneSpelling =
    (p q : StreamPacket) (bytes : List ℕ) → SpellsStream p bytes → SpellsStream q bytes → p ≡ q

-- a packet has one spelling
abbrev pub OnePacket : Type 0
OnePacket = (p : StreamPacket) (a b : List ℕ) → SpellsStream p a → SpellsStream p b → a ≡ b

-- bytes spell one packet, or are refused for one reason, and not both
abbrev pub ReadingIsExact : Type 0
ReadingIsExact = (bytes : List ℕ) → IsBytes bytes → HasOneReading SpellsStream RefusesStream bytes
