use Rattle.std.proofs.Common.{◌≡◌, ℕ, ◌+◌, ◌-◌, List}
use Rattle.m17_book.specs.Records.{SpellsRecord}
use Rattle.m17_book.specs.Tried.{HasSeen}
use Rattle.m17_book.specs.Walk.{spot, IsAt, HasPassed}
use Rattle.m17_book.specs.declared.record.Record.{Record}
use Rattle.m17_book.specs.declared.version.Version.TheVariants.{Two}
use Rattle.m17_book.proofs.check_book.follow_records.Given as goal

-- the records so far were passed and seen, and the source has not failed
abbrev pub invariant-records : goal.invariant-records
invariant-records g l = record {
  passed : (ahead : List ℕ) → IsAt (spot l.fn.cursor (g.S.Input.told l.fn.source).left) ahead
      → (records : List Record) × HasSeen l.fn.limit l.checker records
      × HasPassed (SpellsRecord Two) l.fn.cursor.place ahead records (spot l.cursor (g.S.Input.told l.source).left);
  sound : (g.S.Input.told l.source).faults ≡ (g.S.Input.told l.fn.source).faults;
}

abbrev pub decreases-records : goal.decreases-records
decreases-records g l = (l.most + 1) - l.cursor.place
