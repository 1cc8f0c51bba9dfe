-- The status of an ending, and which device an ending tells of.
use Rattle.std.proofs.Common.{◌≡◌, ◌≢◌, ◌⊎◌, Option, Some, refl, sym, ◌∙◌, inl, inr}
use Rattle.m17_io.specs.declared.fault.Fault.{Fault}
use Rattle.m17_io.specs.declared.fault.Fault.TheVariants.{Read, Write}
use Rattle.m17_print.specs.Endings.{failed_device, text_ending}
use Rattle.m17_print.specs.declared.ending.Ending.{Ending}
use Rattle.m17_print.specs.declared.ending.Ending.TheVariants as ways
use Rattle.m17_print.specs.declared.ending.TextEnding.{TextEnding}
use Rattle.m17_print.specs.declared.ending.TextEnding.TheVariants as endings
use Rattle.m17_app.specs.declared.status.Status.{Status}
use Rattle.m17_app.specs.declared.status.Status.TheVariants.{Finished, InputRefused, WordsRefused, ReadFailed, WriteFailed, PortFailed, CrewRefused, LinkLost, BookFailed, NoMemory}
use Rattle.m17_app.specs.Status.{status_of}

-- a status is that of a failed write, or another
pub is_write_failed : (status : Status) → (status ≡ WriteFailed) ⊎ (status ≢ WriteFailed)
is_write_failed Finished = inr (λ e. cc)
is_write_failed InputRefused = inr (λ e. cc)
is_write_failed WordsRefused = inr (λ e. cc)
is_write_failed ReadFailed = inr (λ e. cc)
is_write_failed WriteFailed = inl refl
is_write_failed PortFailed = inr (λ e. cc)
is_write_failed CrewRefused = inr (λ e. cc)
is_write_failed LinkLost = inr (λ e. cc)
is_write_failed BookFailed = inr (λ e. cc)
is_write_failed NoMemory = inr (λ e. cc)

-- one that isn't is the status that was given
pub own_status : (own status : Status) → (status ≡ own) ⊎ (status ≡ WriteFailed) → status ≢ WriteFailed → status ≡ own
own_status own status (inl h) other = h
own_status own status (inr h) other = absurd (other h)

-- a run of a command has no status that isn't its own
pub never : (other own status : Status) → (status ≡ own) ⊎ (status ≡ WriteFailed) → own ≢ other → WriteFailed ≢ other → status ≢ other
never other own status (inl h) not_own not_write e = not_own (sym h ∙ e)
never other own status (inr h) not_own not_write e = not_write (sym h ∙ e)

-- an ending's own status tells of the device of the streams that failed, and of no memory
pub record Told (own : Status) (fault : Option Fault) : Type 0 where
  pub read_told : own ≡ ReadFailed → fault ≡ Some Read
  pub read_failed : fault ≡ Some Read → own ≡ ReadFailed
  pub write_told : own ≡ WriteFailed → fault ≡ Some Write
  pub write_failed : fault ≡ Some Write → own ≡ WriteFailed
  pub no_memory : own ≢ NoMemory

-- and so does each ending of a command that reads and prints, which asks neither ports nor a crew
pub told : {R : Type 0} (ending : TextEnding R) → Told (status_of (text_ending ending)) (failed_device ending)
told endings.Finished = record { read_told = λ e. cc; read_failed = λ e. cc; write_told = λ e. cc; write_failed = λ e. cc; no_memory = λ e. cc }
told (endings.Refused place reason) = record { read_told = λ e. cc; read_failed = λ e. cc; write_told = λ e. cc; write_failed = λ e. cc; no_memory = λ e. cc }
told endings.ReadFailed = record { read_told = λ _. refl; read_failed = λ _. refl; write_told = λ e. cc; write_failed = λ e. cc; no_memory = λ e. cc }
told endings.WriteFailed = record { read_told = λ e. cc; read_failed = λ e. cc; write_told = λ _. refl; write_failed = λ _. refl; no_memory = λ e. cc }

pub no_ports : {R : Type 0} (ending : TextEnding R) → status_of (text_ending ending) ≢ PortFailed
no_ports endings.Finished e = cc
no_ports (endings.Refused place reason) e = cc
no_ports endings.ReadFailed e = cc
no_ports endings.WriteFailed e = cc

pub no_crew : {R : Type 0} (ending : TextEnding R) → status_of (text_ending ending) ≢ CrewRefused
no_crew endings.Finished e = cc
no_crew (endings.Refused place reason) e = cc
no_crew endings.ReadFailed e = cc
no_crew endings.WriteFailed e = cc

-- nor is it that of want of memory
text_memory : {R : Type 0} (ending : TextEnding R) → text_ending ending ≢ ways.NoMemory
text_memory endings.Finished e = cc
text_memory (endings.Refused place reason) e = cc
text_memory endings.ReadFailed e = cc
text_memory endings.WriteFailed e = cc

pub some_memory : {R : Type 0} (ending : TextEnding R) (way : Ending R) → way ≡ text_ending ending → way ≢ ways.NoMemory
some_memory ending way is e = text_memory ending (sym is ∙ e)

-- the ending with the status 70
pub without_memory : {R : Type 0} (way : Ending R) → status_of way ≡ NoMemory → way ≡ ways.NoMemory
without_memory ways.Finished e = cc
without_memory (ways.Refused place reason) e = cc
without_memory ways.WordsRefused e = cc
without_memory ways.ReadFailed e = cc
without_memory ways.WriteFailed e = cc
without_memory ways.PortFailed e = cc
without_memory ways.CrewRefused e = cc
without_memory ways.LinkLost e = cc
without_memory ways.BookFailed e = cc
without_memory ways.NoMemory e = refl
