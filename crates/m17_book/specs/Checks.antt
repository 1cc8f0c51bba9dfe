-- Which books are legal, record by record, and what a legal one is reported as.
use Rattle.std.specs.Prelude.{◌≡◌, ℕ, List, length, map, count_by, Option, None, Some, Result, Ok, Err}
use Rattle.m17_floor.specs.Floor.{admits, opens}
use Rattle.m17_floor.specs.Legal.{KeptAct, IsLegal, IsFirstBreach}
use Rattle.m17_floor.specs.StandsFor.{packet_act, join_act, leave_act}
use Rattle.m17_book.specs.declared.head.Head.{Head}
use Rattle.m17_book.specs.declared.record.Record.{Record}
use Rattle.m17_book.specs.declared.record.Record.TheVariants.{Join, Leave, Packet}
use Rattle.m17_book.specs.declared.refusal.FormRefusal.{FormRefusal}
use Rattle.m17_book.specs.declared.refusal.FormRefusal.TheVariants.{Cut, Kind, Field, Large, ReadFault, NoMemory}
use Rattle.m17_book.specs.declared.report.Report.{Report}
use Rattle.m17_book.specs.declared.report.Breach.{Breach}

-- What a record keeps: the act at its moment, and of a packet the verdict.
abbrev pub kept_by : Record → KeptAct
kept_by (Join tag moment member listen callsign) =
    record { act = join_act moment member listen; verdict = None }
kept_by (Leave tag moment member why) =
    record { act = leave_act moment member; verdict = None }
kept_by (Packet tag moment member verdict packet) =
    record { act = packet_act moment member packet; verdict = Some verdict }

-- what a book keeps, record by record
abbrev pub kept_of : List Record → List KeptAct
kept_of records = map kept_by records

-- No record breaks a rule, under this limit on talking.
abbrev pub IsLegalBook : ℕ → List Record → Type 0
IsLegalBook limit records = IsLegal limit (kept_of records)

-- The breach names the first record that breaks a rule, and the first rule that it breaks.
abbrev pub IsFirstBreachOf : ℕ → List Record → Breach → Type 0
IsFirstBreachOf limit records breach =
    IsFirstBreach limit (kept_of records) breach.position breach.rule

-- What a book is reported as: how many records it has, how many of them opened the floor, and how many were admitted.
abbrev pub report_of : List Record → Report
report_of records = record {
  records = length records;
  streams = count_by (λ one. opens (kept_by one).verdict) records;
  admitted = count_by (λ one. admits (kept_by one).verdict) records;
}

-- What is said of a book: that it is legal, with its report, or what its first breach is.
abbrev pub TellsOfBook : ℕ → Result Report Breach → List Record → Type 0
TellsOfBook limit (Ok report) records = IsLegalBook limit records × (report ≡ report_of records)
TellsOfBook limit (Err breach) records = IsFirstBreachOf limit records breach

-- the same, by the limit of the book's header
abbrev pub TellsBook : Result Report Breach → Head → List Record → Type 0
TellsBook verdict header records = TellsOfBook header.limit verdict records

-- The refusals that a check gives: it keeps nothing that takes memory.
abbrev pub TakesNoMemory : FormRefusal → Type 0
TakesNoMemory (Cut at) = Unit {0}
TakesNoMemory (Kind at byte) = Unit {0}
TakesNoMemory (Field at) = Unit {0}
TakesNoMemory (Large at) = Unit {0}
TakesNoMemory ReadFault = Unit {0}
TakesNoMemory NoMemory = ⊥
