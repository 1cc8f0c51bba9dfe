-- A run of `replay`, from its ending to what it promises.
use Rattle.std.proofs.Common.{◌≡◌, ◌≢◌, ℕ, Bool, List, [], ◌++◌, Option, Some, refl, sym, ap, subst, ◌∙◌, inl, inr}
use Rattle.std.specs.Prelude.{false, true}
use Rattle.std.proofs.lemmas.List.{append-nil}
use Rattle.m17_io.specs.Faults.{HasCauses}
use Rattle.m17_values.specs.declared.heard.Heard.{Heard}
use Rattle.m17_print.specs.Endings.{Grows}
use Rattle.m17_print.specs.declared.ending.Ending.{Ending}
use Rattle.m17_print.specs.declared.ending.Ending.TheVariants as ways
use Rattle.m17_book.specs.Book.{IsTrace}
use Rattle.m17_book.specs.Laws.{TracesAreExact}
use Rattle.m17_plan.specs.declared.plan.Plan.{Plan}
use Rattle.m17_replay.specs.declared.ending.ReplayEnding.{ReplayEnding}
use Rattle.m17_replay.specs.declared.ending.ReplayEnding.TheVariants as endings
use Rattle.m17_replay.specs.declared.reason.TraceReason.{TraceReason}
use Rattle.m17_replay.specs.Endings.{replay_ending}
use Rattle.m17_replay.specs.Laws.{LostBySixteenFaults}
use Rattle.m17_replay.specs.Reasons.{refusal_told}
use Rattle.m17_replay.specs.Replay.{IsReplayText, SaysReplay, EndsBeforeText, failed_device, streams, ComesToReplay, TellsCrew}
use Rattle.m17_app.specs.declared.status.Status.{Status}
use Rattle.m17_app.specs.declared.status.Status.TheVariants.{InputRefused, WriteFailed, PortFailed, CrewRefused, LinkLost, NoMemory}
use Rattle.m17_app.specs.Status.{Beside, Count, HasCause, Streams, RoseBy, WritesLast, beside, count_from}
use Rattle.m17_app.specs.Replayed.{replay_last_line, replay_status, replay_terms, CutsReplay, IsRunText, KeepsItsLink, PrintsTrace, TellsReplay}
use Rattle.m17_app.specs.Terms.{RunsCommand}
use Rattle.m17_app.specs.Written.{Adds}
use Rattle.m17_app.proofs.Statuses.{Told, is_write_failed, never, own_status}
use Rattle.m17_app.proofs.Causes.{cause_from, counts, memory_cause, own_last, runs_by, sound_from, stays}
use Rattle.m17_app.proofs.Ended.{adds_text, cuts_by, ends_by, Printed, Said}

-- what an ending tells of the streams
told : (ending : ReplayEnding) → Told (replay_status ending) (failed_device ending)
told endings.Finished = record { read_told = λ e. cc; read_failed = λ e. cc; write_told = λ e. cc; write_failed = λ e. cc; no_memory = λ e. cc }
told endings.LinkLost = record { read_told = λ e. cc; read_failed = λ e. cc; write_told = λ e. cc; write_failed = λ e. cc; no_memory = λ e. cc }
told (endings.Refused place reason) = record { read_told = λ e. cc; read_failed = λ e. cc; write_told = λ e. cc; write_failed = λ e. cc; no_memory = λ e. cc }
told endings.CrewRefused = record { read_told = λ e. cc; read_failed = λ e. cc; write_told = λ e. cc; write_failed = λ e. cc; no_memory = λ e. cc }
told endings.ReadFailed = record { read_told = λ _. refl; read_failed = λ _. refl; write_told = λ e. cc; write_failed = λ e. cc; no_memory = λ e. cc }
told endings.WriteFailed = record { read_told = λ e. cc; read_failed = λ e. cc; write_told = λ _. refl; write_failed = λ _. refl; no_memory = λ e. cc }

-- it asks no ports
no_ports : (ending : ReplayEnding) → replay_status ending ≢ PortFailed
no_ports endings.Finished e = cc
no_ports endings.LinkLost e = cc
no_ports (endings.Refused place reason) e = cc
no_ports endings.CrewRefused e = cc
no_ports endings.ReadFailed e = cc
no_ports endings.WriteFailed e = cc

-- a start was refused, by the status
start_refused : (ending : ReplayEnding) → replay_status ending ≡ CrewRefused → ending ≡ endings.CrewRefused
start_refused endings.Finished e = cc
start_refused endings.LinkLost e = cc
start_refused (endings.Refused place reason) e = cc
start_refused endings.CrewRefused e = refl
start_refused endings.ReadFailed e = cc
start_refused endings.WriteFailed e = cc

crew_rose : (ending : ReplayEnding) (crew : Count) → TellsCrew ending crew.before crew.after → RoseBy CrewRefused (replay_status ending) crew.before crew.after
crew_rose ending crew tells = record {
  rose = λ is. tells.refused (start_refused ending is);
  stands = λ other _. tells.others (λ is. other (ap replay_status is));
}

-- the whole text, with its last line
finished_text : (plan : Plan) (summary : Bool) (input text : List ℕ) (left : Option (List ℕ)) → SaysReplay plan summary endings.Finished input left
    → PrintsTrace plan summary endings.Finished input left text → IsReplayText plan summary false input (text ++ [])
finished_text plan summary input text left said printed = subst (λ (xs : List ℕ). IsReplayText plan summary false input xs) (sym (append-nil text)) printed

abbrev Last : ReplayEnding → Status → Streams → Streams → Type 0
Last ending status mid after = WritesLast (replay_last_line ending) (replay_status ending) status mid after

-- where nothing was written before, the last line stands alone
alone : (ending : ReplayEnding) (status : Status) (before mid after : Streams) → mid.sink.written ≡ before.sink.written → Last ending status mid after → status ≢ WriteFailed
    → Adds (replay_last_line ending) before after
alone ending status before mid after none last other = λ first is. last.whole other first (none ∙ is)

-- the last line was written
own_tells : (plan : Plan) (summary threads : Bool) (crew : Count) (ending : ReplayEnding) (before mid after : Streams) → replay_status ending ≢ WriteFailed → (ending ≡ endings.CrewRefused → threads ≡ true)
    → Said (SaysReplay plan summary) ending before mid → Printed (PrintsTrace plan summary) ending before mid → Grows before.sink.written mid.sink.written
    → (EndsBeforeText ending → mid.sink.written ≡ before.sink.written) → Last ending (replay_status ending) mid after → TellsReplay plan summary threads crew (replay_status ending) before after
own_tells plan summary threads crew endings.Finished before mid after other started said printed grows unwritten last = (
  ends_by (SaysReplay plan summary) (PrintsTrace plan summary) _ _ _ endings.Finished before mid after said printed grows last other,
  adds_text (SaysReplay plan summary) (PrintsTrace plan summary) (IsReplayText plan summary false) _ _ _ endings.Finished before mid after said printed last other
      (finished_text plan summary),
)
own_tells plan summary threads crew endings.LinkLost before mid after other started said printed grows unwritten last = (
  ends_by (SaysReplay plan summary) (PrintsTrace plan summary) _ _ _ endings.LinkLost before mid after said printed grows last other,
  adds_text (SaysReplay plan summary) (PrintsTrace plan summary) (IsRunText plan summary LinkLost) _ _ _ endings.LinkLost before mid after said printed last other
      (λ input text left h p. (text, p, refl)),
)
own_tells plan summary threads crew (endings.Refused place reason) before mid after other started said printed grows unwritten last = (
  place,
  reason,
  ends_by (SaysReplay plan summary) (PrintsTrace plan summary) _ _ _ (endings.Refused place reason) before mid after said printed grows last other,
  adds_text (SaysReplay plan summary) (PrintsTrace plan summary) (IsRunText plan summary InputRefused) _ _ _ (endings.Refused place reason) before mid after said printed last other
      (λ input text left h p. (place, reason, h, ap (λ (xs : List ℕ). xs ++ replay_last_line (endings.Refused place reason)) p)),
  alone (endings.Refused place reason) _ before mid after (unwritten tt) last other,
)
own_tells plan summary threads crew endings.CrewRefused before mid after other started said printed grows unwritten last = (
  started refl,
  ends_by (SaysReplay plan summary) (PrintsTrace plan summary) _ _ _ endings.CrewRefused before mid after said printed grows last other,
  alone endings.CrewRefused _ before mid after (unwritten tt) last other,
)
own_tells plan summary threads crew endings.ReadFailed before mid after other started said printed grows unwritten last = (
  ends_by (SaysReplay plan summary) (PrintsTrace plan summary) _ _ _ endings.ReadFailed before mid after said printed grows last other,
  alone endings.ReadFailed _ before mid after (unwritten tt) last other,
)
own_tells plan summary threads crew endings.WriteFailed before mid after other started said printed grows unwritten last = absurd (other refl)

-- an input that is a trace isn't refused, and one without 16 faults in a row doesn't lose its link
refuses_none : TracesAreExact → (plan : Plan) (summary threads : Bool) (crew : Count) (before after : Streams) → TellsReplay plan summary threads crew InputRefused before after
    → (input : List ℕ) × (before.source.left ≡ Some input) × ((heard : List Heard) × IsTrace input heard) → ⊥
refuses_none exact plan summary threads crew before after (place, reason, ends, adds, line) (input, is, (heard, is_trace)) =
    exact.not_both input heard (refusal_told place reason) is_trace (ends.said input is)

loses_none : LostBySixteenFaults → (plan : Plan) (summary threads : Bool) (crew : Count) (before after : Streams) → TellsReplay plan summary threads crew LinkLost before after
    → (input : List ℕ) × (before.source.left ≡ Some input) × KeepsItsLink input → ⊥
loses_none law plan summary threads crew before after (ends, adds) (input, is, (heard, is_trace, none)) =
    let said = ends.said input is in
    none ((law plan summary true input said.0.0 heard said.0.1 is_trace).0 refl)

-- nor that of want of memory, behind an ending
pub some_memory : (ending : ReplayEnding) (status : Status) (mid after : Streams) → Last ending status mid after → status ≢ NoMemory
some_memory ending status mid after last = never NoMemory (replay_status ending) status last.answer (told ending).no_memory (λ e. cc)

some_way : (ending : ReplayEnding) → replay_ending ending ≢ ways.NoMemory
some_way endings.Finished e = cc
some_way endings.LinkLost e = cc
some_way (endings.Refused place reason) e = cc
some_way endings.CrewRefused e = cc
some_way endings.ReadFailed e = cc
some_way endings.WriteFailed e = cc

pub has_memory : (ending : ReplayEnding) (way : Ending TraceReason) → way ≡ replay_ending ending → way ≢ ways.NoMemory
has_memory ending way is e = some_way ending (sym is ∙ e)

-- what is told of a run before its last line
abbrev pub Came : Plan → Bool → ReplayEnding → Streams → Streams → Type 0
Came plan summary ending before mid = (input : List ℕ) → before.source.left ≡ Some input → ComesToReplay plan summary ending (streams input mid.source.left before.sink.written mid.sink.written)

-- in one thread there is no crew
pub none_started : (ending : ReplayEnding) (n : ℕ) → ending ≢ endings.CrewRefused → TellsCrew ending n n
none_started ending n never = record {
  refused = λ is. absurd (never is);
  others = λ _. refl;
}

-- the whole run
pub ran : (plan : Plan) (summary threads : Bool) (ending : ReplayEnding) (status : Status) (before mid after : Streams) (ports : ℕ) (crew : Count) → TracesAreExact → LostBySixteenFaults
    → TellsCrew ending crew.before crew.after → (ending ≡ endings.CrewRefused → threads ≡ true) → Came plan summary ending before mid → HasCauses (counts before) (counts mid) (failed_device ending) → Grows before.sink.written mid.sink.written
    → (EndsBeforeText ending → mid.sink.written ≡ before.sink.written) → Last ending status mid after
    → RunsCommand (replay_terms plan summary threads crew) status before after (beside (count_from ports ports) crew)
ran plan summary threads ending status before mid after ports crew exact law tells started came causes grows unwritten last =
    let own : Status = replay_status ending in
    let others : Beside = beside (count_from ports ports) crew in
    let cause : HasCause status before after others = cause_from own (failed_device ending) (replay_last_line ending) status before mid after others (told ending) causes last
    (stays PortFailed own ports ports (no_ports ending) refl) (crew_rose ending crew tells) in
    let said : Said (SaysReplay plan summary) ending before mid = λ input is. (came input is).said in
    let printed : Printed (PrintsTrace plan summary) ending before mid = λ input first is is_first. (came input is).printed first is_first in
    let cut : CutsReplay plan summary threads before after crew = (
      ending,
      (λ is. sound_from own (failed_device ending) (replay_last_line ending) status before mid after causes last (ap failed_device is)),
      (λ is. tells.refused is),
      started,
      cuts_by (SaysReplay plan summary) (PrintsTrace plan summary) (replay_last_line ending) own status ending before mid after said printed last,
    ) in
    let all : TellsReplay plan summary threads crew status before after = elim (is_write_failed status) [
      | inl four ↦ subst (λ (s : Status). TellsReplay plan summary threads crew s before after) (sym four) cut
      | inr other ↦
          let its : status ≡ own = own_status own status last.answer other in
          subst (λ (s : Status). TellsReplay plan summary threads crew s before after) (sym its)
          (own_tells plan summary threads crew ending before mid after (λ e. other (its ∙ e)) started said printed grows unwritten (own_last (replay_last_line ending) own status mid after last its))
    ] in
    runs_by (replay_terms plan summary threads crew) status before after others cause all (refuses_none exact plan summary threads crew before after) (λ t. t)
    (loses_none law plan summary threads crew before after) (λ t _. t)

-- there was no memory
pub no_run : (plan : Plan) (summary threads : Bool) (before after : Streams) (ports : ℕ) (crew : Count) → TracesAreExact → LostBySixteenFaults → after.sink.written ≡ before.sink.written
    → after.source.faults ≡ before.source.faults → after.sink.faults ≡ before.sink.faults → crew.after ≡ crew.before
    → RunsCommand (replay_terms plan summary threads crew) NoMemory before after (beside (count_from ports ports) crew)
no_run plan summary threads before after ports crew exact law written reads writes stands =
    let others : Beside = beside (count_from ports ports) crew in
    runs_by (replay_terms plan summary threads crew) NoMemory before after others (memory_cause before after others reads writes refl stands) (written, reads, writes)
    (refuses_none exact plan summary threads crew before after) (λ t. t) (loses_none law plan summary threads crew before after) (λ t _. t)
