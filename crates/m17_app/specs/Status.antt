-- The statuses of the program, and their causes.
use Rattle.std.specs.Prelude.{◌≡◌, ◌≢◌, ◌⊎◌, ℕ, ◌≤◌, List, ◌++◌, Some}
use Rattle.m17_io.specs.Faults.{HasRisen}
use Rattle.m17_io.specs.Sink.{AppendsPrefix, SinkTold}
use Rattle.m17_io.specs.Source.{SourceTold}
use Rattle.m17_print.specs.declared.ending.Ending.{Ending}
use Rattle.m17_print.specs.declared.ending.Ending.TheVariants as endings
use Rattle.m17_app.specs.declared.status.Status.{Status}
use Rattle.m17_app.specs.declared.status.Status.TheVariants.{Finished, InputRefused, WordsRefused, ReadFailed, WriteFailed, PortFailed, CrewRefused, LinkLost, BookFailed, NoMemory}

-- the number that the program ends with
abbrev pub code_of : Status → ℕ
code_of Finished = 0
code_of InputRefused = 1
code_of WordsRefused = 2
code_of ReadFailed = 3
code_of WriteFailed = 4
code_of PortFailed = 5
code_of CrewRefused = 6
code_of LinkLost = 7
code_of BookFailed = 8
code_of NoMemory = 70

-- the number is that of a status with this property
abbrev pub Tells : ℕ → (Status → Type 0) → Type 0
Tells code P = (status : Status) × (code ≡ code_of status) × P status

-- the number is that of a status
abbrev pub IsStatus : ℕ → Type 0
IsStatus code = (status : Status) × (code ≡ code_of status)

-- the status of a run that ended so, where its last line could be written
abbrev pub status_of : {R : Type 0} → Ending R → Status
status_of endings.Finished = Finished
status_of (endings.Refused place reason) = InputRefused
status_of endings.WordsRefused = WordsRefused
status_of endings.ReadFailed = ReadFailed
status_of endings.WriteFailed = WriteFailed
status_of endings.PortFailed = PortFailed
status_of endings.CrewRefused = CrewRefused
status_of endings.LinkLost = LinkLost
status_of endings.BookFailed = BookFailed
status_of endings.NoMemory = NoMemory

-- What the source and the sink of a run tell at a moment.
pub record Streams : Type 0 where
  pub source : SourceTold
  pub sink : SinkTold

abbrev pub streams : SourceTold → SinkTold → Streams
streams source sink = record { source = source; sink = sink }

-- A count of failures, before a run and after it.
pub record Count : Type 0 where
  pub before : ℕ
  pub after : ℕ

abbrev pub count_from : ℕ → ℕ → Count
count_from before after = record { before = before; after = after }

-- What is counted beside the streams: how often the ports have failed, and how many starts the crew has refused.
pub record Beside : Type 0 where
  pub ports : Count
  pub crew : Count

abbrev pub beside : Count → Count → Beside
beside ports crew = record { ports = ports; crew = crew }

-- A count of failures that have the status `own`: it rose where the run ended with that status, and stands where it
-- ended with another, but for WriteFailed. That is told in place of all others, so it leaves open whether this count
-- rose too.
pub record RoseBy (own status : Status) (before after : ℕ) : Type 0 where
  pub rose : status ≡ own → HasRisen before after
  pub stands : status ≢ own → status ≢ WriteFailed → after ≡ before

-- What caused the status of a run: the source failed exactly where it is 3, the ports where it is 5, and the crew refused
-- a start where it is 6, but that 4 comes in place of all; and the sink failed exactly where it is 4. No count of the
-- streams falls.
pub record HasCause (status : Status) (before after : Streams) (others : Beside) : Type 0 where
  pub source : RoseBy ReadFailed status before.source.faults after.source.faults
  pub sink : RoseBy WriteFailed status before.sink.faults after.sink.faults
  pub ports : RoseBy PortFailed status others.ports.before others.ports.after
  pub crew : RoseBy CrewRefused status others.crew.before others.crew.after
  pub reads_counted : before.source.faults ≤ after.source.faults
  pub writes_counted : before.sink.faults ≤ after.sink.faults
  -- where the sink did not fail, it holds nothing back of what was written
  pub handed_on : status ≢ WriteFailed → status ≢ NoMemory → after.sink.held_back ≡ 0

-- A last line was written, which may be empty, and all was handed on, or the sink failed. `own` is
-- the status where it did not.
pub record WritesLast (line : List ℕ) (own status : Status) (before after : Streams) : Type 0 where
  pub answer : (status ≡ own) ⊎ (status ≡ WriteFailed)
  pub whole : status ≢ WriteFailed → (xs : List ℕ) → before.sink.written ≡ Some xs
      → after.sink.written ≡ Some (xs ++ line)
  pub part : (xs : List ℕ) → before.sink.written ≡ Some xs → AppendsPrefix xs line after.sink.written
  pub failed : status ≡ WriteFailed → (own ≡ WriteFailed) ⊎ HasRisen before.sink.faults after.sink.faults
  pub handed_on : status ≢ WriteFailed → after.sink.held_back ≡ 0
  pub no_fault : status ≢ WriteFailed → after.sink.faults ≡ before.sink.faults
  pub counted : before.sink.faults ≤ after.sink.faults
  pub input_untouched : after.source ≡ before.source
