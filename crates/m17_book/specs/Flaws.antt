-- Why bytes begin with no whole record or entry: tables of the fields whose values are not all allowed.
use Rattle.std.specs.Prelude.{◌≡◌, ◌⊎◌, ℕ, ◌+◌, ◌<◌, ◌≤◌, List, length, slice_index}
use Rattle.m17_fields.specs.Fields.{be_32, field_at}
use Rattle.m17_callsign.specs.AddressBytes.{address_bytes}
use Rattle.m17_floor.specs.declared.verdict.Verdict.{Verdict}
use Rattle.m17_stream.specs.Stream.{SpellsStream}
use Rattle.m17_stream.specs.declared.packet.StreamPacket.{StreamPacket}
use Rattle.m17_book.specs.Limits.{IsKind}
use Rattle.m17_book.specs.Records.{verdict_code, value_bytes, FitsVerdict}
use Rattle.m17_book.specs.Versions.{highest_verdict, MayJoin}
use Rattle.m17_book.specs.declared.version.Version.{Version}
use Rattle.m17_book.specs.declared.refusal.Flaw.{Flaw}
use Rattle.m17_book.specs.declared.refusal.Flaw.TheVariants as flaws

-- the kind of the record or entry that the bytes begin with
abbrev pub kind_of : List ℕ → ℕ
kind_of bytes = slice_index bytes 0

-- A table of fields: which of them are in the bytes, where each begins, how many bytes it has, and which
-- values it may have; and whether the bytes end before their record or entry does.
module _ {Field : Type 0} (IsIn : Field → List ℕ → Type 0) (at_of size_of : Field → ℕ)
    (IsAllowed : Field → List ℕ → Type 0) (IsShort : List ℕ → Type 0) where
  -- each field that ends within the first n bytes has a value that is allowed
  abbrev pub AreAllowed : List ℕ → ℕ → Type 0
  AreAllowed bytes n = (field : Field) → IsIn field bytes
      → at_of field + size_of field ≤ n → IsAllowed field bytes

  -- the first field of the bytes with a value that is not allowed, all of whose bytes are there
  pub record IsFirstBad (bytes : List ℕ) (field : Field) : Type 0 where
    pub is_in : IsIn field bytes
    pub whole : at_of field + size_of field ≤ length bytes
    pub before : AreAllowed bytes (at_of field)
    pub bad : IsAllowed field bytes → ⊥

  -- The bytes are some, and begin with no whole record or entry: what is wrong first.
  abbrev pub HasFlaw : List ℕ → Flaw → Type 0
  HasFlaw bytes flaws.Cut = (0 < length bytes) × IsKind (kind_of bytes) × IsShort bytes
      × AreAllowed bytes (length bytes)
  HasFlaw bytes (flaws.Kind byte) = (0 < length bytes) × (byte ≡ kind_of bytes) × (IsKind byte → ⊥)
  HasFlaw bytes (flaws.Field place) = IsKind (kind_of bytes)
      × (field : Field) × IsFirstBad bytes field × (place ≡ at_of field)

-- The fields of records whose values are not all allowed, in the order of the bytes.
pub data RecordField : Type 0 where
  Link : RecordField
  Place : RecordField
  Listen : RecordField
  Callsign : RecordField
  Reason : RecordField
  Verdict_ : RecordField
  Value : RecordField
  Packet : RecordField

-- which records have the field: all, a Join (1), a Leave (2) or a Packet (3)
abbrev pub IsInRecord : RecordField → List ℕ → Type 0
IsInRecord Link bytes = Unit {0}
IsInRecord Place bytes = Unit {0}
IsInRecord Listen bytes = kind_of bytes ≡ 1
IsInRecord Callsign bytes = kind_of bytes ≡ 1
IsInRecord Reason bytes = kind_of bytes ≡ 2
IsInRecord Verdict_ bytes = kind_of bytes ≡ 3
IsInRecord Value bytes = kind_of bytes ≡ 3
IsInRecord Packet bytes = kind_of bytes ≡ 3

abbrev pub record_field_at : RecordField → ℕ
record_field_at Link = 1
record_field_at Place = 18
record_field_at Listen = 30
record_field_at Callsign = 31
record_field_at Reason = 30
record_field_at Verdict_ = 30
record_field_at Value = 31
record_field_at Packet = 43

abbrev pub record_field_size : RecordField → ℕ
record_field_size Link = 1
record_field_size Place = 4
record_field_size Listen = 1
record_field_size Callsign = 6
record_field_size Reason = 1
record_field_size Verdict_ = 1
record_field_size Value = 12
record_field_size Packet = 54

-- The values that each field may have in a book of the version.
abbrev pub IsAllowedInRecord : Version → RecordField → List ℕ → Type 0
IsAllowedInRecord version Link bytes = slice_index bytes 1 < 4
IsAllowedInRecord version Place bytes =
    (place : ℕ) × (place < 256) × (be_32 place ≡ field_at 18 4 bytes)
IsAllowedInRecord version Listen bytes = slice_index bytes 30 < 2
IsAllowedInRecord version Callsign bytes =
    (address : ℕ) × MayJoin version address × (address_bytes address ≡ field_at 31 6 bytes)
IsAllowedInRecord version Reason bytes = (1 ≤ slice_index bytes 30) × (slice_index bytes 30 ≤ 5)
IsAllowedInRecord version Verdict_ bytes =
    (1 ≤ slice_index bytes 30) × (slice_index bytes 30 ≤ highest_verdict version)
IsAllowedInRecord version Value bytes = (verdict : Verdict) × FitsVerdict verdict
    × (verdict_code verdict ≡ slice_index bytes 30) × (value_bytes verdict ≡ field_at 31 12 bytes)
IsAllowedInRecord version Packet bytes = (packet : StreamPacket)
    × SpellsStream packet (field_at 43 54 bytes)

-- the bytes end before their record does
pub record IsShortRecord (bytes : List ℕ) : Type 0 where
  pub join : kind_of bytes ≡ 1 → length bytes < 37
  pub leave : kind_of bytes ≡ 2 → length bytes < 31
  pub packet : kind_of bytes ≡ 3 → length bytes < 97

-- why bytes begin with no whole record of the version
abbrev pub RecordFlaw : Version → List ℕ → Flaw → Type 0
RecordFlaw version bytes flaw = HasFlaw IsInRecord record_field_at record_field_size
    (IsAllowedInRecord version) IsShortRecord bytes flaw

-- The fields of entries whose values are not all allowed: the family of the address, and the length of the
-- datagram behind an address of 4 bytes, or behind one of 16.
pub data EntryField : Type 0 where
  Family : EntryField
  Length_4 : EntryField
  Length_6 : EntryField

abbrev pub IsInEntry : EntryField → List ℕ → Type 0
IsInEntry Family bytes = kind_of bytes ≡ 1
IsInEntry Length_4 bytes = (kind_of bytes ≡ 1) × (slice_index bytes 9 ≡ 4)
IsInEntry Length_6 bytes = (kind_of bytes ≡ 1) × (slice_index bytes 9 ≡ 6)

abbrev pub entry_field_at : EntryField → ℕ
entry_field_at Family = 9
entry_field_at Length_4 = 16
entry_field_at Length_6 = 28

abbrev pub entry_field_size : EntryField → ℕ
entry_field_size field = 1

abbrev pub IsAllowedInEntry : EntryField → List ℕ → Type 0
IsAllowedInEntry Family bytes = (slice_index bytes 9 ≡ 4) ⊎ (slice_index bytes 9 ≡ 6)
IsAllowedInEntry Length_4 bytes = slice_index bytes 16 ≤ 64
IsAllowedInEntry Length_6 bytes = slice_index bytes 28 ≤ 64

-- the bytes end before their entry does; past the end of the bytes a length is 0 here
pub record IsShortEntry (bytes : List ℕ) : Type 0 where
  pub datagram_4 : kind_of bytes ≡ 1 → slice_index bytes 9 ≡ 4
      → length bytes < 17 + slice_index bytes 16
  pub datagram_6 : kind_of bytes ≡ 1 → slice_index bytes 9 ≡ 6
      → length bytes < 29 + slice_index bytes 28
  pub quiet : kind_of bytes ≡ 2 → length bytes < 9
  pub fault : kind_of bytes ≡ 3 → ⊥

-- why bytes begin with no whole entry
abbrev pub EntryFlaw : List ℕ → Flaw → Type 0
EntryFlaw bytes flaw =
    HasFlaw IsInEntry entry_field_at entry_field_size IsAllowedInEntry IsShortEntry bytes flaw
