-- What `judge` prints: a line for each record, over one list of acts.
use Rattle.std.specs.Prelude.{◌≡◌, ◌⊎◌, ℕ, ◌+◌, ◌*◌, ◌<◌, ◌≤◌, false, List, [], ◌∷◌, ◌++◌, length, drop, map, slice_get, Option, Some, codes, decimal}
use Rattle.std.specs.List.{range_with_len}
use Rattle.m17_values.specs.declared.member.Member.{Member}
use Rattle.m17_stream.specs.declared.packet.StreamPacket.{StreamPacket}
use Rattle.m17_stream.specs.declared.packet.StreamRefusal.{StreamRefusal}
use Rattle.m17_stream.specs.Stream.{SpellsStream, RefusesStream}
use Rattle.m17_floor.specs.declared.act.Act.{Act}
use Rattle.m17_floor.specs.declared.act.ActKind.TheVariants.{Join, Packet, Other}
use Rattle.m17_floor.specs.declared.verdict.Verdict.{Verdict}
use Rattle.m17_floor.specs.Setup.{FloorSetup, floor_setup}
use Rattle.m17_floor.specs.Floor.{verdict_at}
use Rattle.m17_print.specs.Endings.{input_refused_line}
use Rattle.m17_print.specs.Refused.{stream_refusal_text}
use Rattle.m17_print.specs.Texts.{IsTextOf}
use Rattle.m17_print.specs.Verdicts.{verdict_text}
use Rattle.m17_print.specs.declared.ending.TextEnding.{TextEnding}
use Rattle.m17_print.specs.declared.ending.TextEnding.TheVariants.{Finished, Refused, ReadFailed, WriteFailed}
use Rattle.m17_text_commands.specs.declared.judge_reason.JudgeReason.{JudgeReason}
use Rattle.m17_text_commands.specs.JudgeReasons.{judge_reason_words}
use Rattle.m17_text_commands.specs.Records.{most_records, record_at, moment_of_record, talker_of, packet_of, AreRecords, RefusesRecords}

-- talker t is the member with place t and generation 0
abbrev pub talker : ℕ → Member
talker t = record { place = t; generation = 0 }

-- how many talkers there are, and how long one may talk, in milliseconds
abbrev pub talkers : ℕ
talkers = 65536

abbrev pub talk_limit : ℕ
talk_limit = 180000

-- what their floor is made with
abbrev pub judge_setup : FloorSetup
judge_setup = floor_setup talkers talk_limit

-- a Join of each of the first `count` talkers, who may all speak, at moment 0
unfoldable pub joins : ℕ → List Act
joins count = map (λ t. record { at = 0; kind = Join (talker t) false }) (range_with_len 0 count)

-- the acts of a run: the talkers' Joins, and then an act for each record, in order
abbrev pub acts_with : List Act → List Act
acts_with more = joins talkers ++ more

-- the act of a record whose packet is this one: its talker sends it
abbrev pub packet_act : List ℕ → StreamPacket → Act
packet_act bytes packet = record {
  at = moment_of_record bytes;
  kind = Packet (talker (talker_of bytes))
      packet;
}

-- the act of a record whose packet is refused
abbrev pub passed_act : List ℕ → Act
passed_act bytes = record { at = moment_of_record bytes; kind = Other }

-- a line: the record's number, a space, what it says, and a line feed
abbrev pub numbered_line : ℕ → List ℕ → List ℕ
numbered_line n text = decimal n ++ codes " " ++ text ++ 10 ∷ []

-- Record n has a packet. It is an act of its talker, and its line has the verdict of the floor rule
-- at its position.
pub record IsVerdictLine (acts : List Act) (n : ℕ) (bytes line : List ℕ) : Type 0 where
  pub packet : StreamPacket
  pub spelled : SpellsStream packet (packet_of bytes)
  pub act : slice_get acts (talkers + n) ≡ Some (packet_act bytes packet)
  pub verdict : Verdict
  pub ruled : verdict_at judge_setup acts (talkers + n) ≡ Some verdict
  pub text : line ≡ numbered_line n (verdict_text verdict)

-- The packet of record n is refused. It is another act, and its line has the reason.
pub record IsRefusalLine (acts : List Act) (n : ℕ) (bytes line : List ℕ) : Type 0 where
  pub refusal : StreamRefusal
  pub refused : RefusesStream (packet_of bytes) refusal
  pub act : slice_get acts (talkers + n) ≡ Some (passed_act bytes)
  pub text : line ≡ numbered_line n (stream_refusal_text refusal)

-- the line of record n
abbrev pub IsRecordLine : List Act → ℕ → List ℕ → List ℕ → Type 0
IsRecordLine acts n bytes line = IsVerdictLine acts n bytes line ⊎ IsRefusalLine acts n bytes line

-- the lines that the records of the input have, each with its act
abbrev pub HasRecordLine : List ℕ → List Act → ℕ → List ℕ → Type 0
HasRecordLine input more n line = IsRecordLine (acts_with more) n (record_at input n) line

-- the text of the first `count` records of the input: a line for each, over one list of acts
pub record IsTextOfRecords (input : List ℕ) (count : ℕ) (text : List ℕ) : Type 0 where
  pub more : List Act
  pub acts_count : length more ≡ count
  pub lines : IsTextOf (HasRecordLine input more) count text

-- What `judge` prints for the input: the lines of its records, and where it is refused the line
-- that says so.
abbrev pub IsJudgeText : List ℕ → List ℕ → Type 0
IsJudgeText input text = ((count : ℕ) × AreRecords input count × IsTextOfRecords input count text)
    ⊎ ((count place : ℕ) × (reason : JudgeReason) × (before : List ℕ)
    × RefusesRecords input count place reason
    × IsTextOfRecords input count before
    × (text ≡ before ++ input_refused_line place (judge_reason_words reason)))

-- What an ending of `judge` says of the input, and of what is left of it.
abbrev pub SaysJudge : TextEnding JudgeReason → List ℕ → Option (List ℕ) → Type 0
SaysJudge Finished input left = ((count : ℕ) × AreRecords input count) × (left ≡ Some [])
SaysJudge (Refused place reason) input left = (count : ℕ) × RefusesRecords input count place reason
SaysJudge ReadFailed input left = Unit {0}
SaysJudge WriteFailed input left = Unit {0}

-- What stands written when `judge` ends in each way. `left` is what is left of the input.
abbrev pub PrintsJudge : TextEnding JudgeReason → List ℕ → Option (List ℕ) → List ℕ → Type 0
PrintsJudge Finished input left text = (count : ℕ) × AreRecords input count
    × IsTextOfRecords input count text
PrintsJudge (Refused place reason) input left text =
    (count : ℕ) × RefusesRecords input count place reason × IsTextOfRecords input count text
-- the lines of the records that were taken whole
PrintsJudge ReadFailed input left text = (count taken : ℕ) × (count ≤ most_records)
    × (64 * count ≤ taken)
    × (taken < 64 * (count + 1)) × (taken ≤ length input) × (left ≡ Some (drop taken input))
    × IsTextOfRecords input count text
-- a first part of the lines of the first `count` records
PrintsJudge WriteFailed input left text = (count : ℕ) × (whole after : List ℕ)
    × (count ≤ most_records)
    × (64 * count ≤ length input) × IsTextOfRecords input count whole × (whole ≡ text ++ after)
