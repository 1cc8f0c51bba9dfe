-- What an entry of an evening is, and what is heard of it.
use Rattle.std.specs.Prelude.{◌<◌, ℕ, Bool, ◌%◌, ◌^◌, ◌-◌, List, [], ◌∷◌, ◌++◌, codes, replicate}
use Rattle.m17_fields.specs.Fields.{be_16}
use Rattle.m17_callsign.specs.AddressBytes.{address_bytes}
use Rattle.m17_crc.specs.Crc.{crc_of}
use Rattle.m17_lsd.specs.Lsd.{lsd_bytes}
use Rattle.m17_lsd.specs.declared.lsd.Lsd.{Lsd}
use Rattle.m17_stream.specs.Stream.{frame_field}
use Rattle.m17_values.specs.declared.heard.Heard.{Heard}
use Rattle.m17_values.specs.declared.heard.Heard.TheVariants as heard
use Rattle.m17_text_commands.specs.declared.made.Made.{Made}
use Rattle.m17_text_commands.specs.declared.made.Made.TheVariants.{Conn, Pong, Frame, Quiet}
use Rattle.m17_text_commands.specs.Hotspots.{peer_of, address_of, module_of}

-- the link setup data of hotspot i: to everyone, a voice stream, META zero
abbrev pub lsd_of : ℕ → Lsd
lsd_of i = record { dst = 2 ^ 48 - 1; src = address_of i; kind = 5; meta = replicate 14 0 }

-- the 52 bytes of a frame before its CRC; its number stands in each byte of the payload
abbrev pub front_of : ℕ → ℕ → ℕ → Bool → List ℕ
front_of i sid number last = codes "M17 " ++ be_16 sid ++ lsd_bytes (lsd_of i)
    ++ be_16 (frame_field last number) ++ replicate 16 (number % 256)

-- The datagram that a hotspot sends: CONN to its module, PONG, or a stream packet with the CRC of its first 52 bytes.
abbrev pub conn_bytes : ℕ → List ℕ
conn_bytes i = codes "CONN" ++ address_bytes (address_of i) ++ module_of i ∷ []

abbrev pub pong_bytes : ℕ → List ℕ
pong_bytes i = codes "PONG" ++ address_bytes (address_of i)

abbrev pub frame_bytes : ℕ → ℕ → ℕ → Bool → List ℕ
frame_bytes i sid number last =
    front_of i sid number last ++ be_16 (crc_of (front_of i sid number last))

-- what is heard at this moment
unfoldable pub heard_as : ℕ → Made → Heard
heard_as at (Conn i) = heard.Datagram (peer_of i) at (conn_bytes i)
heard_as at (Pong i) = heard.Datagram (peer_of i) at (pong_bytes i)
heard_as at (Frame i sid number last) =
    heard.Datagram (peer_of i) at (frame_bytes i sid number last)
heard_as at Quiet = heard.Quiet at

-- how many bytes such an entry has in a trace
abbrev pub entry_length : Made → ℕ
entry_length (Conn i) = 28
entry_length (Pong i) = 27
entry_length (Frame i sid number last) = 71
entry_length Quiet = 9

-- what an entry has fits its places: twelve hotspots, ids of 16 bits and numbers of 15
abbrev pub IsSound : Made → Type 0
IsSound (Conn i) = i < 12
IsSound (Pong i) = i < 12
IsSound (Frame i sid number last) = (i < 12) × (sid < 2 ^ 16) × (number < 32768)
IsSound Quiet = Unit {0}
