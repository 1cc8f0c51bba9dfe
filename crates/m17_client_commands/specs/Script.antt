-- Scripts of `talk`: records of 62 bytes, each a moment and a packet, and why other bytes are none.
use Rattle.std.specs.Prelude.{◌≡◌, ◌⊎◌, ℕ, ◌+◌, ◌-◌, ◌*◌, ◌<◌, ◌≤◌, List, length, take, drop, Some, unwrap_or}
use Rattle.std.specs.List.{slice_get}
use Rattle.std.specs.Option.{option_map}
use Rattle.std.specs.Int.{w64, from_be_bytes}
use Rattle.m17_stream.specs.Stream.{SpellsStream}
use Rattle.m17_stream.specs.declared.packet.StreamPacket.{StreamPacket}
use Rattle.m17_client.specs.Talk.{IsInOrder}
use Rattle.m17_client_commands.specs.declared.reason.ScriptReason.{ScriptReason}
use Rattle.m17_client_commands.specs.declared.reason.ScriptReason.TheVariants.{Cut, Field, Large}

-- how many records a script may have, and how many bytes a record has
abbrev pub most_records : ℕ
most_records = 16384

abbrev pub record_size : ℕ
record_size = 62

-- a packet with the moment at which it is due, in milliseconds since the client became connected
abbrev pub Due : Type 0
Due = ℕ × StreamPacket

-- the fields of the record that these bytes begin with
abbrev pub script_moment : List ℕ → ℕ
script_moment bytes = from_be_bytes w64 (take 8 bytes)

abbrev pub packet_of : List ℕ → List ℕ
packet_of bytes = take 54 (drop 8 bytes)

-- The bytes are the record of this packet and its moment.
pub record SpellsDue (due : Due) (bytes : List ℕ) : Type 0 where
  pub size : length bytes ≡ record_size
  pub moment_is : due.0 ≡ script_moment bytes
  pub packet_is : SpellsStream due.1 (packet_of bytes)

-- the input from record n on, and that record
abbrev pub from_record : List ℕ → ℕ → List ℕ
from_record input n = drop (record_size * n) input

abbrev pub record_at : List ℕ → ℕ → List ℕ
record_at input n = take record_size (from_record input n)

-- These are the first records of the input, and no moment is below the one before it.
pub record BeginsWith (input : List ℕ) (script : List Due) : Type 0 where
  pub not_large : length script ≤ most_records
  pub within : record_size * length script ≤ length input
  pub each : (n : ℕ) (due : Due) → slice_get script n ≡ Some due → SpellsDue due (record_at input n)
  pub in_order : IsInOrder script

-- The input is this script: these records, 16,384 at the most, and nothing else.
pub record IsScript (input : List ℕ) (script : List Due) : Type 0 where
  pub begins : BeginsWith input script
  pub whole : length input ≡ record_size * length script

-- the moment of the last record, 0 where there is none
abbrev pub last_moment : List Due → ℕ
last_moment script =
    unwrap_or (option_map (λ due. due.0) (slice_get script (length script - 1))) 0

-- the moment that these bytes begin with is below this one before it
abbrev pub IsEarly : ℕ → List ℕ → Type 0
IsEarly moment rest = (8 ≤ length rest) × (script_moment rest < moment)

-- Why what is left of an input behind a record of this moment begins with no other, and at which of its bytes: its
-- moment is below the one before it, which is told also where the packet is cut; it is cut; or its packet is none.
abbrev pub RefusesNext : ℕ → List ℕ → ℕ → ScriptReason → Type 0
RefusesNext moment rest place Cut = (0 < length rest) × (length rest < record_size)
    × ¬ IsEarly moment rest × (place ≡ length rest)
RefusesNext moment rest place Field = (IsEarly moment rest × (place ≡ 0))
    ⊎ ((record_size ≤ length rest) × ¬ IsEarly moment rest
    × ((packet : StreamPacket) → ¬ SpellsStream packet (packet_of rest)) × (place ≡ 8))
RefusesNext moment rest place Large = ⊥

-- The same where a whole script of as many records as there may be is left behind: a byte more is too many.
abbrev pub RefusesMore : List ℕ → ScriptReason → Type 0
RefusesMore rest Cut = ⊥
RefusesMore rest Field = ⊥
RefusesMore rest Large = 0 < length rest

-- The input is refused as a script at this place, for this reason: behind these records it goes on, and not with a
-- record.
pub record RefusesScript (input : List ℕ) (place : ℕ) (reason : ScriptReason) : Type 0 where
  pub script : List Due
  pub begins : BeginsWith input script
  pub stops : ((length script ≡ most_records)
      × RefusesMore (from_record input (length script)) reason
      × (place ≡ record_size * length script))
      ⊎ ((length script < most_records)
      × (k : ℕ) × RefusesNext (last_moment script) (from_record input (length script)) k reason
      × (place ≡ record_size * length script + k))
