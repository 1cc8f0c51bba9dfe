-- What comes of trying the rules at a record. No public clause of a function cites this module.
use Rattle.std.specs.Prelude.{◌≡◌, ◌⊎◌, ℕ, ◌<◌, ◌≤◌, List, length, Option, None, Some}
use Rattle.m17_floor.specs.Acts.{with_act, moment_before}
use Rattle.m17_floor.specs.Legal.{acts_in, turn_of}
use Rattle.m17_floor.specs.Alike.{BreaksNext}
use Rattle.m17_floor.specs.declared.rule.Rule.{Rule}
use Rattle.m17_book.specs.declared.report.Breach.{Breach}
use Rattle.m17_book.specs.Checks.{kept_by, kept_of, IsFirstBreachOf}
use Rattle.m17_book.specs.Checked.{Checking, HasChecked}
use Rattle.m17_book.specs.Roster.{RosterStandsFor}
use Rattle.m17_book.specs.declared.record.Record.{Record}

-- The record keeps all rules, and the checker has followed it.
pub record Keeps (limit : ℕ) (checker : Checking) (records : List Record) (next : Record)
    : Type 0 where
  pub keeps : (rule : Rule) → ¬ BreaksNext limit (acts_in (kept_of records)) (kept_by next) rule
  pub people : RosterStandsFor limit (with_act (acts_in (kept_of records)) (kept_by next).act)
      checker.people
  pub moment : checker.moment ≡ (kept_by next).act.at
  pub rising : moment_before (acts_in (kept_of records)) (length records) ≤ checker.moment

-- The record breaks the rule, and none that is tried before it.
pub record BreaksFirst (limit : ℕ) (records : List Record) (next : Record) (rule : Rule)
    : Type 0 where
  pub breaks : BreaksNext limit (acts_in (kept_of records)) (kept_by next) rule
  pub first : (other : Rule) → turn_of other < turn_of rule →
      ¬ BreaksNext limit (acts_in (kept_of records)) (kept_by next) other

abbrev pub Tries : Option Rule → ℕ → Checking → List Record → Record → Type 0
Tries None limit checker records next = Keeps limit checker records next
Tries (Some rule) limit checker records next = BreaksFirst limit records next rule

-- The checker was shown these records: it has gone through them, or it found the first breach among them.
abbrev pub HasSeen : ℕ → Checking → List Record → Type 0
HasSeen limit checker records = HasChecked limit checker records
    ⊎ ((breach : Breach) × (checker.breach ≡ Some breach) × IsFirstBreachOf limit records breach)
