-- How a run of `migrate` stands once its input was read. No public clause cites this module.
use Rattle.std.specs.Prelude.{ℕ, List, Option, None, Result, Ok, Err}
use Rattle.m17_io.specs.declared.fault.Fault.{Fault}
use Rattle.m17_book.specs.Book.{RefusesBook}
use Rattle.m17_book.specs.declared.version.Version.TheVariants.{One}
use Rattle.m17_print.specs.Endings.{failed_device}
use Rattle.m17_print.specs.declared.ending.TextEnding.{TextEnding}
use Rattle.m17_print.specs.declared.ending.TextEnding.TheVariants.{Finished, Refused, ReadFailed, WriteFailed}
use Rattle.m17_text_commands.specs.MigrateReasons.{refusal_told}
use Rattle.m17_text_commands.specs.declared.migrate_reason.MigrateReason.{MigrateReason}

-- the device that failed, if one did
abbrev pub stopped_by : {T : Type 0} → Result T (TextEnding MigrateReason) → Option Fault
stopped_by (Ok value) = None
stopped_by (Err ending) = failed_device ending

-- The run ended before anything was written: the input is refused, or a device failed.
abbrev pub EndsUnread : List ℕ → TextEnding MigrateReason → Type 0
EndsUnread input Finished = ⊥
EndsUnread input (Refused place reason) = RefusesBook One input (refusal_told place reason)
EndsUnread input ReadFailed = Unit {0}
EndsUnread input WriteFailed = Unit {0}
