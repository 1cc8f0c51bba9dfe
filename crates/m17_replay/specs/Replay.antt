-- What `replay` prints: a line for each entry that was heard, or a summary.
use Rattle.std.specs.Prelude.{◌≡◌, ◌≢◌, ◌⊎◌, ℕ, ◌-◌, Bool, true, false, List, [], ◌++◌, length, map, Option, None, Some, if◌then◌else◌}
use Rattle.std.specs.List.{flat_map, range_with_len}
use Rattle.m17_io.specs.Faults.{HasRisen}
use Rattle.m17_io.specs.declared.fault.Fault.{Fault}
use Rattle.m17_io.specs.declared.fault.Fault.TheVariants.{Read, Write}
use Rattle.m17_values.specs.declared.heard.Heard.{Heard}
use Rattle.m17_values.specs.declared.peer.Peer.{Peer}
use Rattle.m17_ports.specs.declared.tally.Tally.{Tally}
use Rattle.m17_book.specs.Book.{IsTrace, RefusesTrace}
use Rattle.m17_directory.specs.Entries.{Entry, notice_at, is_fault, peers_named}
use Rattle.m17_directory.specs.Routed.{link_verdict}
use Rattle.m17_plan.specs.declared.plan.Plan.{Plan}
use Rattle.m17_house.specs.Replay.{IsReplayOf, packet_verdict, said_to, tally_of}
pub use Rattle.m17_house.specs.Replay.{outcome_of}
use Rattle.m17_plan.specs.Planned.{setup_of}
use Rattle.m17_replay.specs.Lines.{verdict_line}
use Rattle.m17_replay.specs.Summary.{counts_text, peers_text}
use Rattle.m17_replay.specs.declared.ending.ReplayEnding.{ReplayEnding}
use Rattle.m17_replay.specs.declared.ending.ReplayEnding.TheVariants.{Finished, LinkLost, Refused, CrewRefused, ReadFailed, WriteFailed}
use Rattle.m17_replay.specs.Reasons.{refusal_told}

-- The link was lost: the entry that ended it is a fault.
abbrev pub is_lost : List Entry → Bool
is_lost entries = is_fault (notice_at entries (length entries - 1))

-- how many entries were heard before the end
abbrev pub heard_count : List Entry → ℕ
heard_count entries = if is_lost entries then length entries else length entries - 1

-- The lines of the entries, in order.
abbrev pub line_of : Plan → List Entry → ℕ → List ℕ
line_of plan entries n =
    verdict_line n (link_verdict (setup_of plan) entries n) (packet_verdict plan entries n)

unfoldable pub lines_text : Plan → List Entry → List ℕ
lines_text plan entries = flat_map (line_of plan entries) (range_with_len 0 (heard_count entries))

-- what was said to a peer, by kinds
abbrev pub tally_at : Plan → List Entry → Peer → Tally
tally_at plan entries x = tally_of (said_to plan entries x)

-- The summary: how many entries came to what, and what was said to each peer that an entry names, in the order of
-- peers.
unfoldable pub summary_text : Plan → List Entry → List ℕ
summary_text plan entries =
    counts_text (heard_count entries)
    (map (outcome_of plan entries) (range_with_len 0 (heard_count entries)))
    ++ peers_text (tally_at plan entries) (peers_named entries (length entries))

-- What is printed of the entries of a replay: the summary, where that is asked for, or else their lines.
abbrev pub replay_text : Plan → Bool → List Entry → List ℕ
replay_text plan summary entries =
    if summary then summary_text plan entries else lines_text plan entries

-- The text is that of the trace that these bytes are, and says whether its link was lost.
pub record IsReplayText (plan : Plan) (summary : Bool) (lost : Bool) (bytes text : List ℕ) : Type 0
  where
    pub heard : List Heard
    pub entries : List Entry
    pub is_trace : IsTrace bytes heard
    pub is_replay : IsReplayOf plan heard entries
    pub is_lost_so : is_lost entries ≡ lost
    pub text_is : text ≡ replay_text plan summary entries

-- What an ending of `replay` says of the input, and of what is left of it.
abbrev pub SaysReplay : Plan → Bool → ReplayEnding → List ℕ → Option (List ℕ) → Type 0
SaysReplay plan summary Finished input left =
    ((text : List ℕ) × IsReplayText plan summary false input text) × (left ≡ Some [])
SaysReplay plan summary LinkLost input left =
    ((text : List ℕ) × IsReplayText plan summary true input text) × (left ≡ Some [])
SaysReplay plan summary (Refused place reason) input left =
    RefusesTrace input (refusal_told place reason)
SaysReplay plan summary CrewRefused input left =
    ((heard : List Heard) × IsTrace input heard) × (left ≡ Some [])
SaysReplay plan summary ReadFailed input left = Unit {0}
SaysReplay plan summary WriteFailed input left = Unit {0}

-- What stands written when `replay` ends in each way. It reads its input whole before it writes.
abbrev pub PrintsReplay : Plan → Bool → ReplayEnding → List ℕ → List ℕ → Type 0
PrintsReplay plan summary Finished input text = IsReplayText plan summary false input text
PrintsReplay plan summary LinkLost input text = IsReplayText plan summary true input text
PrintsReplay plan summary (Refused place reason) input text = text ≡ []
PrintsReplay plan summary CrewRefused input text = text ≡ []
PrintsReplay plan summary ReadFailed input text = text ≡ []
-- nothing, where the sink failed before the input was read, or else a first part of the text
PrintsReplay plan summary WriteFailed input text = (text ≡ [])
    ⊎ ((lost : Bool) × (whole after : List ℕ) × IsReplayText plan summary lost input whole
    × (whole ≡ text ++ after))

-- The ending comes before any text: the input is refused, the crew refused a start, or the source failed.
abbrev pub EndsBeforeText : ReplayEnding → Type 0
EndsBeforeText Finished = ⊥
EndsBeforeText LinkLost = ⊥
EndsBeforeText (Refused place reason) = Unit {0}
EndsBeforeText CrewRefused = Unit {0}
EndsBeforeText ReadFailed = Unit {0}
EndsBeforeText WriteFailed = ⊥

-- the device that failed, where `replay` ended so
abbrev pub failed_device : ReplayEnding → Option Fault
failed_device Finished = None
failed_device LinkLost = None
failed_device (Refused place reason) = None
failed_device CrewRefused = None
failed_device ReadFailed = Some Read
failed_device WriteFailed = Some Write

-- What an ending tells of the crew's count of refused starts: it rose where a start was refused, and stands in any other
-- run.
pub record TellsCrew (ending : ReplayEnding) (before after : ℕ) : Type 0 where
  pub refused : ending ≡ CrewRefused → HasRisen before after
  pub others : ending ≢ CrewRefused → after ≡ before

-- What the devices tell of a run: the input, what is left of it, and what was written before the run and after it.
pub record Streams : Type 0 where
  pub input : List ℕ
  pub left : Option (List ℕ)
  pub first : Option (List ℕ)
  pub written : Option (List ℕ)

abbrev pub streams : List ℕ → Option (List ℕ) → Option (List ℕ) → Option (List ℕ) → Streams
streams input left first written =
    record { input = input; left = left; first = first; written = written }

-- `replay` came to this ending: what it says of the input and of what is left of it holds, and what it prints was
-- appended to what was written before.
pub record ComesToReplay (plan : Plan) (summary : Bool) (ending : ReplayEnding)
    (tell : Streams) : Type 0 where
  pub said : SaysReplay plan summary ending tell.input tell.left
  pub printed : (before : List ℕ) → tell.first ≡ Some before
      → (text : List ℕ) × (tell.written ≡ Some (before ++ text))
      × PrintsReplay plan summary ending tell.input text
