-- What a run of `replay` promises.
use Rattle.std.specs.Prelude.{◌≡◌, ℕ, Bool, false, true, List, ◌++◌, Option, Some}
use Rattle.m17_io.specs.Faults.{HasRisen}
use Rattle.m17_values.specs.declared.heard.Heard.{Heard}
use Rattle.m17_print.specs.Endings.{crew_refused_line, input_refused_line, last_line, link_lost_line, read_failed_line}
use Rattle.m17_book.specs.Book.{IsTrace, RefusesTrace}
use Rattle.m17_plan.specs.declared.plan.Plan.{Plan}
use Rattle.m17_replay.specs.declared.ending.ReplayEnding.{ReplayEnding}
use Rattle.m17_replay.specs.declared.ending.ReplayEnding.TheVariants as endings
use Rattle.m17_replay.specs.declared.reason.TraceReason.{TraceReason}
use Rattle.m17_replay.specs.Endings.{replay_ending}
use Rattle.m17_replay.specs.Laws.{HasSixteenFaults}
use Rattle.m17_replay.specs.Reasons.{trace_reason_words, refusal_told}
use Rattle.m17_replay.specs.Replay.{IsReplayText, PrintsReplay, SaysReplay}
use Rattle.m17_app.specs.declared.status.Status.{Status}
use Rattle.m17_app.specs.declared.status.Status.TheVariants.{Finished, InputRefused, ReadFailed, WriteFailed, CrewRefused, LinkLost, NoMemory}
use Rattle.m17_app.specs.Status.{Count, Streams, status_of}
use Rattle.m17_app.specs.Terms.{Terms}
use Rattle.m17_app.specs.Written.{Adds, AddsText, CutsBy, EndsBy}

-- the last line of a run that ended so, if it has one, and its status where that line could be written
abbrev pub replay_last_line : ReplayEnding → List ℕ
replay_last_line ending = last_line trace_reason_words (replay_ending ending)

abbrev pub replay_status : ReplayEnding → Status
replay_status ending = status_of (replay_ending ending)

-- The whole text of a run, with its last line: that of the trace, whose link was lost or not, or the one line that says
-- where and why the input is none.
abbrev pub IsRunText : Plan → Bool → Status → List ℕ → List ℕ → Type 0
IsRunText plan summary Finished input text = IsReplayText plan summary false input text
IsRunText plan summary LinkLost input text =
    (said : List ℕ) × IsReplayText plan summary true input said × (text ≡ said ++ link_lost_line)
IsRunText plan summary InputRefused input text = (place : ℕ) × (reason : TraceReason)
    × RefusesTrace input (refusal_told place reason)
    × (text ≡ input_refused_line place (trace_reason_words reason))
IsRunText plan summary _ input text = Unit {0}

-- what stands written at an ending, whatever is left of the input
abbrev pub PrintsTrace : Plan → Bool → ReplayEnding → List ℕ → Option (List ℕ) → List ℕ → Type 0
PrintsTrace plan summary ending input left text = PrintsReplay plan summary ending input text

-- the run came to this ending, with its last line
abbrev pub EndsReplay : Plan → Bool → ReplayEnding → Streams → Streams → Type 0
EndsReplay plan summary ending before after =
    EndsBy (SaysReplay plan summary) (PrintsTrace plan summary) (replay_last_line ending) ending
    before after

-- Some ending was come to, and the sink failed, while it printed or at the last line: what the ending says of the input
-- holds, so of no refusal but the input's own a first part is written, and of `read failed` and `crew refused` only where
-- the count of the source, or of the crew, rose, and of `crew refused` only over threads.
abbrev pub CutsReplay : Plan → Bool → Bool → Streams → Streams → Count → Type 0
CutsReplay plan summary threads before after crew = (ending : ReplayEnding)
    × (ending ≡ endings.ReadFailed → HasRisen before.source.faults after.source.faults)
    × (ending ≡ endings.CrewRefused → HasRisen crew.before crew.after)
    × (ending ≡ endings.CrewRefused → threads ≡ true)
    × CutsBy (SaysReplay plan summary) (PrintsTrace plan summary) (replay_last_line ending) ending
    before after

-- What each status says of a run of `replay`. With 0 and 7 the whole text stands written; with 1, 3 and 6 the last line
-- alone, whatever the source tells; with 4 a first part of what would have been written. Want of memory comes before
-- anything is written, and no device has failed then. 6 comes over threads alone.
abbrev pub TellsReplay : Plan → Bool → Bool → Count → Status → Streams → Streams → Type 0
TellsReplay plan summary threads crew Finished before after =
    EndsReplay plan summary endings.Finished before after
    × AddsText (IsRunText plan summary Finished) before after
TellsReplay plan summary threads crew LinkLost before after =
    EndsReplay plan summary endings.LinkLost before after
    × AddsText (IsRunText plan summary LinkLost) before after
TellsReplay plan summary threads crew InputRefused before after = (place : ℕ) × (reason : TraceReason)
    × EndsReplay plan summary (endings.Refused place reason) before after
    × AddsText (IsRunText plan summary InputRefused) before after
    × Adds (input_refused_line place (trace_reason_words reason)) before after
TellsReplay plan summary threads crew ReadFailed before after =
    EndsReplay plan summary endings.ReadFailed before after × Adds read_failed_line before after
TellsReplay plan summary threads crew CrewRefused before after =
    (threads ≡ true) × EndsReplay plan summary endings.CrewRefused before after
    × Adds crew_refused_line before after
TellsReplay plan summary threads crew WriteFailed before after =
    CutsReplay plan summary threads before after crew
TellsReplay plan summary threads crew NoMemory before after =
    (after.sink.written ≡ before.sink.written)
    × (after.source.faults ≡ before.source.faults) × (after.sink.faults ≡ before.sink.faults)
TellsReplay plan summary threads crew _ before after = ⊥

-- the input is a trace in which no 16 faults stand in a row
abbrev pub KeepsItsLink : List ℕ → Type 0
KeepsItsLink input = (heard : List Heard) × IsTrace input heard × ¬ HasSixteenFaults heard

abbrev pub replay_terms : Plan → Bool → Bool → Count → Terms
replay_terms plan summary threads crew = record {
  tells = TellsReplay plan summary threads crew;
  takes = λ left. (input : List ℕ) × (left ≡ Some input)
      × ((heard : List Heard) × IsTrace input heard);
  untroubled = λ left. (input : List ℕ) × (left ≡ Some input) × KeepsItsLink input;
}
