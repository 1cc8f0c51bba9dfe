-- Stream packets: their 54 bytes, why other bytes are refused, and the order of frame numbers. M17 Protocol
-- Specification, IP networking; the order is this profile's.
use Rattle.std.specs.Prelude.{◌≡◌, ◌≢◌, ℕ, Bool, ◌+◌, ◌-◌, ◌*◌, ◌%◌, ◌^◌, ◌<◌, ◌≤◌, List, ◌++◌, length, take, drop, codes, if◌then◌else◌}
use Rattle.m17_fields.specs.Fields.{be_16, IsBytes}
use Rattle.m17_lsd.specs.Lsd.{FitsFields, lsd_bytes}
use Rattle.m17_crc.specs.Crc.{crc_of}
use Rattle.m17_stream.specs.declared.packet.StreamPacket.{StreamPacket}
use Rattle.m17_stream.specs.declared.packet.StreamRefusal.{StreamRefusal}
use Rattle.m17_stream.specs.declared.packet.StreamRefusal.TheVariants.{Length, Magic, Crc}

-- the bytes that every stream packet begins with
abbrev pub magic : List ℕ
magic = codes "M17 "

-- the field of the frame: its number, and 32,768 more in the last frame
abbrev pub frame_field : Bool → ℕ → ℕ
frame_field last number = 32768 * (if last then 1 else 0) + number

-- the 52 bytes before the CRC
abbrev pub front_bytes : StreamPacket → List ℕ
front_bytes p =
    magic ++ be_16 p.sid ++ lsd_bytes p.lsd ++ be_16 (frame_field p.last p.number) ++ p.payload

-- The packet spells the bytes: its fields fit their places, and then comes the CRC of the first 52 bytes.
pub record SpellsStream (p : StreamPacket) (bytes : List ℕ) : Type 0 where
  pub sid : p.sid < 2 ^ 16
  pub lsd : FitsFields p.lsd
  pub number : p.number < 32768
  pub payload_bytes : IsBytes p.payload
  pub payload_length : length p.payload ≡ 16
  pub spelling : bytes ≡ front_bytes p ++ be_16 (crc_of (front_bytes p))

-- The bytes are no stream packet, and this is the first reason that fits, in the order of the cases. The CRC found is
-- the last field, and the one expected is that of the first 52 bytes.
abbrev pub RefusesStream : List ℕ → StreamRefusal → Type 0
RefusesStream bytes (Length n) = (n ≡ length bytes) × (length bytes ≢ 54)
RefusesStream bytes (Magic m) = (length bytes ≡ 54) × (m ≡ take 4 bytes) × (m ≢ magic)
RefusesStream bytes (Crc found expected) = (length bytes ≡ 54) × (take 4 bytes ≡ magic)
    × (found < 2 ^ 16) × (be_16 found ≡ drop 52 bytes)
    × (expected ≡ crc_of (take 52 bytes)) × (found ≢ expected)

-- how far the new number is ahead of the old one, counted round 32,768
abbrev pub steps_ahead : ℕ → ℕ → ℕ
steps_ahead new old = (new + 65536 - old) % 32768

-- the new number is ahead of the old one: 1 to 16,383 steps
abbrev pub IsAhead : ℕ → ℕ → Type 0
IsAhead new old = (1 ≤ steps_ahead new old) × (steps_ahead new old ≤ 16383)
