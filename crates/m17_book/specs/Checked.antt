-- What a checker of a book has gone through.
use Rattle.std.specs.Prelude.{◌≡◌, ℕ, ◌-◌, List, [], ◌∷◌, ◌++◌, length, Option, None, Result, Ok, Err}
use Rattle.m17_floor.specs.Acts.{moment_before}
use Rattle.m17_floor.specs.Legal.{acts_in, moment_written}
use Rattle.m17_book.specs.Checks.{kept_of, IsLegalBook, IsFirstBreachOf, report_of}
use Rattle.m17_book.specs.Roster.{People, RosterStandsFor}
use Rattle.m17_book.specs.declared.record.Record.{Record}
use Rattle.m17_book.specs.declared.report.Report.{Report}
use Rattle.m17_book.specs.declared.report.Breach.{Breach}

-- A checker as its callers see it: what it counted so far, and the breach that it found. The rest is for its own
-- proofs: who is in, the floor, and the last record's moment.
pub record Checking : Type 0 where
  pub people : People
  pub moment : ℕ
  pub report : Report
  pub breach : Option Breach

-- The checker has gone through these records under this limit: they are legal, and it has found no breach.
pub record HasChecked (limit : ℕ) (checker : Checking) (records : List Record) : Type 0 where
  pub unbroken : checker.breach ≡ None
  pub legal : IsLegalBook limit records
  pub report : checker.report ≡ report_of records
  pub people : RosterStandsFor limit (acts_in (kept_of records)) checker.people
  pub greatest : checker.moment ≡ moment_before (acts_in (kept_of records)) (length records)
  pub last : checker.moment ≡ moment_written (acts_in (kept_of records)) (length records - 1)

-- What comes of one record more: the records with it are legal, and the checker has gone through them; or it is the
-- first that breaks a rule.
abbrev pub ChecksNext : {T : Type 0} → Result T Breach → ℕ → Checking → List Record → Record
    → Type 0
ChecksNext (Ok _) limit checker records next =
    HasChecked limit checker (records ++ next ∷ [])
ChecksNext (Err breach) limit checker records next =
    (breach.position ≡ length records) × IsFirstBreachOf limit (records ++ next ∷ []) breach
