-- The input of `judge`: records of 64 bytes.
use Rattle.std.specs.Prelude.{◌≡◌, ℕ, ◌+◌, ◌*◌, ◌<◌, ◌≤◌, List, length, take, drop}
use Rattle.std.specs.Int.{w16, w64, from_be_bytes}
use Rattle.m17_text_commands.specs.declared.judge_reason.JudgeReason.{JudgeReason}
use Rattle.m17_text_commands.specs.declared.judge_reason.JudgeReason.TheVariants.{Cut, Large}

-- how many records there may be
abbrev pub most_records : ℕ
most_records = 1000000

-- record n of the input, the last of which may be cut
abbrev pub record_at : List ℕ → ℕ → List ℕ
record_at input n = take 64 (drop (64 * n) input)

-- a record's fields: its moment in milliseconds, its talker, and the bytes of its packet
abbrev pub moment_of_record : List ℕ → ℕ
moment_of_record bytes = from_be_bytes w64 (take 8 bytes)

abbrev pub talker_of : List ℕ → ℕ
talker_of bytes = from_be_bytes w16 (take 2 (drop 8 bytes))

abbrev pub packet_of : List ℕ → List ℕ
packet_of bytes = drop 10 bytes

-- the input is a list of whole records, 1,000,000 at the most
pub record AreRecords (input : List ℕ) (count : ℕ) : Type 0 where
  pub whole : length input ≡ 64 * count
  pub not_large : count ≤ most_records

-- Why the input is no list of records, and where: it ends inside record `count`, at its length; or
-- there is a byte of record 1,000,000, where that begins.
abbrev pub RefusesRecords : List ℕ → ℕ → ℕ → JudgeReason → Type 0
RefusesRecords input count place Cut =
    (count < most_records) × (64 * count < length input) × (length input < 64 * (count + 1))
    × (place ≡ length input)
RefusesRecords input count place Large =
    (count ≡ most_records) × (64 * count < length input) × (place ≡ 64 * count)
