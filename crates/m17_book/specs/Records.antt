-- Records of a book and the bytes that spell them, field by field.
use Rattle.std.specs.Prelude.{◌≡◌, ℕ, ◌<◌, ◌≤◌, ◌^◌, List, [], ◌∷◌, ◌++◌, if◌then◌else◌}
use Rattle.m17_fields.specs.Fields.{be_16, be_32, be_64}
use Rattle.m17_callsign.specs.AddressBytes.{address_bytes}
use Rattle.m17_crc.specs.Crc.{crc_of}
use Rattle.m17_values.specs.declared.member.Member.{Member}
use Rattle.m17_control.specs.declared.event.Tag.{Tag}
use Rattle.m17_control.specs.declared.event.Why.{Why}
use Rattle.m17_control.specs.declared.event.Why.TheVariants.{Asked, Moved, Silent, Stopped, Replaced}
use Rattle.m17_floor.specs.declared.verdict.Verdict.{Verdict}
use Rattle.m17_floor.specs.declared.verdict.Verdict.TheVariants.{Opened, Continued, Busy, Repeat, Late, AfterEnd, TimedOut, NotMember, ListenOnly}
use Rattle.m17_stream.specs.Stream.{SpellsStream, front_bytes}
use Rattle.m17_stream.specs.declared.packet.StreamPacket.{StreamPacket}
use Rattle.m17_book.specs.Versions.{highest_verdict, MayJoin}
use Rattle.m17_book.specs.declared.version.Version.{Version}
use Rattle.m17_book.specs.declared.record.Record.{Record}
use Rattle.m17_book.specs.declared.record.Record.TheVariants.{Join, Leave, Packet}

-- The byte for why a member left, and the byte of a verdict.
abbrev pub why_code : Why → ℕ
why_code Asked = 1
why_code Moved = 2
why_code Silent = 3
why_code Stopped = 4
why_code Replaced = 5

abbrev pub verdict_code : Verdict → ℕ
verdict_code Opened = 1
verdict_code Continued = 2
verdict_code (Busy _) = 3
verdict_code Repeat = 4
verdict_code (Late _) = 5
verdict_code AfterEnd = 6
verdict_code NotMember = 7
verdict_code ListenOnly = 8
verdict_code TimedOut = 9

-- ten zero bytes, and twelve
abbrev pub zeros_10 : List ℕ
zeros_10 = 0 ∷ 0 ∷ 0 ∷ 0 ∷ 0 ∷ 0 ∷ 0 ∷ 0 ∷ 0 ∷ 0 ∷ []

abbrev pub zeros_12 : List ℕ
zeros_12 = 0 ∷ 0 ∷ zeros_10

-- a place and its generation
abbrev pub member_bytes : Member → List ℕ
member_bytes member = be_32 member.place ++ be_64 member.generation

-- The 12 bytes of a verdict's value: of Busy the holder, of Late the number, of all others nothing.
abbrev pub value_bytes : Verdict → List ℕ
value_bytes Opened = zeros_12
value_bytes Continued = zeros_12
value_bytes (Busy holder) = member_bytes holder
value_bytes Repeat = zeros_12
value_bytes (Late last) = zeros_10 ++ be_16 last
value_bytes AfterEnd = zeros_12
value_bytes TimedOut = zeros_12
value_bytes NotMember = zeros_12
value_bytes ListenOnly = zeros_12

-- the 54 bytes of a stream packet: with its right CRC, as its crate spells it
abbrev pub stream_bytes : StreamPacket → List ℕ
stream_bytes packet = front_bytes packet ++ be_16 (crc_of (front_bytes packet))

-- The 30 bytes that all records begin with: kind, link, index, moment, place, generation.
abbrev pub head_bytes : ℕ → Tag → ℕ → Member → List ℕ
head_bytes kind tag moment member =
    (kind ∷ tag.link ∷ []) ++ be_64 tag.index ++ be_64 moment
    ++ be_32 member.place ++ be_64 member.generation

-- The bytes of a record: 37 of a Join, 31 of a Leave, 97 of a Packet.
abbrev pub record_bytes : Record → List ℕ
record_bytes (Join tag moment member listen callsign) =
    head_bytes 1 tag moment member ++ ((if listen then 1 else 0) ∷ []) ++ address_bytes callsign
record_bytes (Leave tag moment member why) = head_bytes 2 tag moment member ++ (why_code why ∷ [])
record_bytes (Packet tag moment member verdict packet) =
    head_bytes 3 tag moment member ++ (verdict_code verdict ∷ [])
    ++ value_bytes verdict ++ stream_bytes packet

-- The fields that all records have fit their places: there are four links and 256 places.
pub record FitsHead (tag : Tag) (moment : ℕ) (member : Member) : Type 0 where
  pub link : tag.link < 4
  pub index : tag.index < 2 ^ 64
  pub moment_fits : moment < 2 ^ 64
  pub place : member.place < 256
  pub generation : member.generation < 2 ^ 64

-- the value of the verdict fits its place
abbrev pub FitsVerdict : Verdict → Type 0
FitsVerdict Opened = Unit {0}
FitsVerdict Continued = Unit {0}
FitsVerdict (Busy holder) = (holder.place < 256) × (holder.generation < 2 ^ 64)
FitsVerdict Repeat = Unit {0}
FitsVerdict (Late last) = last < 32768
FitsVerdict AfterEnd = Unit {0}
FitsVerdict TimedOut = Unit {0}
FitsVerdict NotMember = Unit {0}
FitsVerdict ListenOnly = Unit {0}

-- the version knows the verdict, and its value fits its place
abbrev pub FitsVerdictOf : Version → Verdict → Type 0
FitsVerdictOf version verdict =
    (verdict_code verdict ≤ highest_verdict version) × FitsVerdict verdict

-- each field of the record fits its place in a book of the version
abbrev pub FitsRecord : Version → Record → Type 0
FitsRecord version (Join tag moment member listen callsign) =
    FitsHead tag moment member × MayJoin version callsign
FitsRecord version (Leave tag moment member why) = FitsHead tag moment member
FitsRecord version (Packet tag moment member verdict packet) =
    FitsHead tag moment member × FitsVerdictOf version verdict
    × SpellsStream packet (stream_bytes packet)

-- The record spells the bytes in a book of the version: its fields fit their places, and stand there one after another.
abbrev pub SpellsRecord : Version → Record → List ℕ → Type 0
SpellsRecord version record_ bytes = FitsRecord version record_ × (bytes ≡ record_bytes record_)

-- What a caller has to know to write a record, and can test: the link is below 4, and places, a Busy's holder's too,
-- are below 256, and a Late's number is below 32,768.
abbrev pub IsLow : Tag → Member → Type 0
IsLow tag member = (tag.link < 4) × (member.place < 256)

abbrev pub IsLowVerdict : Verdict → Type 0
IsLowVerdict Opened = Unit {0}
IsLowVerdict Continued = Unit {0}
IsLowVerdict (Busy holder) = holder.place < 256
IsLowVerdict Repeat = Unit {0}
IsLowVerdict (Late last) = last < 32768
IsLowVerdict AfterEnd = Unit {0}
IsLowVerdict TimedOut = Unit {0}
IsLowVerdict NotMember = Unit {0}
IsLowVerdict ListenOnly = Unit {0}

abbrev pub IsWritable : Record → Type 0
IsWritable (Join tag moment member listen callsign) = IsLow tag member
IsWritable (Leave tag moment member why) = IsLow tag member
IsWritable (Packet tag moment member verdict packet) = IsLow tag member × IsLowVerdict verdict
