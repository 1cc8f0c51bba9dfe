-- The printed text of addresses and packets. M17 Protocol Specification, address encoding and IP
-- networking; the words are this profile's.
use Rattle.std.specs.Prelude.{◌==◌, ℕ, ◌-◌, ◌^◌, List, [], ◌∷◌, ◌++◌, codes, decimal, unwrap_or, None, Some, if◌then◌else◌}
use Rattle.std.specs.Int.{w16, to_be_bytes}
use Rattle.m17_callsign.specs.AddressBytes.{address_bytes}
use Rattle.m17_callsign.specs.Letters.{callsign_of}
use Rattle.m17_lsd.specs.Lsd.{text_of_type}
use Rattle.m17_stream.specs.declared.packet.StreamPacket.{StreamPacket}
use Rattle.m17_control.specs.declared.packet.Control.{Control}
use Rattle.m17_control.specs.declared.packet.Control.TheVariants.{Conn, Lstn, Ackn, Nack, Ping, Pong, Disc}
use Rattle.m17_control.specs.declared.packet.Packet.{Packet}
use Rattle.m17_control.specs.declared.packet.Packet.TheVariants as packets
use Rattle.m17_control.specs.declared.packet.Refusal.{Refusal}
use Rattle.m17_control.specs.declared.packet.Refusal.TheVariants as refusals
use Rattle.m17_print.specs.Line.{hex_of}
use Rattle.m17_print.specs.Refused.{length_text, magic_text, crc_text}

-- an address: its callsign, where it has one; `broadcast`; or else its 12 hex digits
abbrev pub address_text : ℕ → List ℕ
address_text address = unwrap_or (callsign_of address)
    (if address == 2 ^ 48 - 1 then codes "broadcast" else hex_of (address_bytes address))

-- a stream packet, with all its fields
abbrev pub stream_text : StreamPacket → List ℕ
stream_text p = codes "stream " ++ hex_of (to_be_bytes w16 p.sid)
    ++ codes " dst " ++ address_text p.lsd.dst
    ++ codes " src " ++ address_text p.lsd.src
    ++ codes " type " ++ hex_of (to_be_bytes w16 p.lsd.kind) ++ codes " " ++ text_of_type p.lsd.kind
    ++ codes " meta " ++ hex_of p.lsd.meta
    ++ codes " number " ++ decimal p.number
    ++ codes " last " ++ (if p.last then codes "1" else codes "0")
    ++ codes " payload " ++ hex_of p.payload

abbrev pub control_text : Control → List ℕ
control_text (Conn from letter) = codes "conn " ++ address_text from ++ codes " " ++ letter ∷ []
control_text (Lstn from letter) = codes "lstn " ++ address_text from ++ codes " " ++ letter ∷ []
control_text Ackn = codes "ackn"
control_text Nack = codes "nack"
control_text (Ping from) = codes "ping " ++ address_text from
control_text (Pong from) = codes "pong " ++ address_text from
control_text (Disc None) = codes "disc"
control_text (Disc (Some from)) = codes "disc " ++ address_text from

abbrev pub packet_text : Packet → List ℕ
packet_text (packets.Stream p) = stream_text p
packet_text (packets.Control c) = control_text c

-- why bytes are no packet
abbrev pub refusal_text : Refusal → List ℕ
refusal_text (refusals.Length n) = length_text n
refusal_text (refusals.Magic m) = magic_text m
refusal_text (refusals.Address address) = codes "refused address " ++ address_text address
refusal_text (refusals.Module letter) = codes "refused module " ++ hex_of (letter ∷ [])
refusal_text (refusals.Crc found expected) = crc_text found expected
