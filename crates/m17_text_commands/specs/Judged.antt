-- How a run of `check` stands once its input was read. No public clause cites this module.
use Rattle.std.specs.Prelude.{◌≡◌, ℕ, ◌≤◌, List, [], ◌++◌, Option, None, Some, Result, Ok, Err}
use Rattle.m17_book.specs.Checks.{report_of}
use Rattle.m17_book.specs.declared.record.Record.{Record}
use Rattle.m17_book.specs.declared.report.Report.{Report}
use Rattle.m17_io.specs.declared.fault.Fault.{Fault}
use Rattle.m17_io.specs.Faults.{HasRisen}
use Rattle.m17_io.specs.Sink.{AppendsPrefix, SinkTold}
use Rattle.m17_floor.specs.declared.rule.Rule.{Rule}
use Rattle.m17_floor.specs.declared.rule.Rule.TheVariants as rules
use Rattle.m17_text_commands.specs.declared.check_reason.CheckReason.TheVariants as reasons
use Rattle.m17_print.specs.Endings.{failed_device}
use Rattle.m17_print.specs.declared.ending.TextEnding.{TextEnding}
use Rattle.m17_print.specs.declared.ending.TextEnding.TheVariants.{Finished, Refused, ReadFailed, WriteFailed}
use Rattle.m17_text_commands.specs.Check.{IsLegalInput, RefusesInput}
use Rattle.m17_text_commands.specs.declared.check_reason.CheckReason.{CheckReason}

-- the device that failed, if one did
abbrev pub stopped_by : {T : Type 0} → Result T (TextEnding CheckReason) → Option Fault
stopped_by (Ok value) = None
stopped_by (Err ending) = failed_device ending

-- The input was read to its end, and is a legal book with this report; or the run ended without a line.
abbrev pub HasJudged : Result Report (TextEnding CheckReason) → List ℕ → Option (List ℕ) → Type 0
HasJudged (Ok report) input left = ((records : List Record) × IsLegalInput input records
    × (report ≡ report_of records)) × (left ≡ Some [])
HasJudged (Err Finished) input left = ⊥
HasJudged (Err (Refused place reason)) input left = RefusesInput input place reason
HasJudged (Err ReadFailed) input left = Unit {0}
HasJudged (Err WriteFailed) input left = Unit {0}

-- the reason that tells a broken rule
abbrev pub reason_of : Rule → CheckReason
reason_of rules.Moment = reasons.Moment
reason_of rules.Member = reasons.Member
reason_of rules.Verdict = reasons.Verdict

-- The line was written, or the sink failed and a first part of it stands written.
abbrev pub Prints : TextEnding CheckReason → List ℕ → SinkTold → SinkTold → Type 0
Prints Finished line old new = (new.faults ≡ old.faults)
    × ((before : List ℕ) → old.written ≡ Some before → new.written ≡ Some (before ++ line))
Prints (Refused place reason) line old new = ⊥
Prints ReadFailed line old new = ⊥
Prints WriteFailed line old new = (old.faults ≤ new.faults) × HasRisen old.faults new.faults
    × ((before : List ℕ) → old.written ≡ Some before → AppendsPrefix before line new.written)
