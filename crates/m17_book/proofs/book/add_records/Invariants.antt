use Rattle.std.proofs.Common.{◌≡◌, ℕ, ◌+◌, ◌-◌, List, All}
use Rattle.m17_book.specs.Records.{SpellsRecord, IsWritable}
use Rattle.m17_book.specs.Walk.{spot, IsAt, HasPassed}
use Rattle.m17_book.proofs.book.add_records.Given as goal

-- the records so far were passed, and the source has not failed
abbrev pub invariant-records : goal.invariant-records
invariant-records g l = record {
  passed : (ahead : List ℕ) → IsAt (spot l.fn.cursor (g.S.Input.told l.fn.source).left) ahead
      → HasPassed (SpellsRecord l.fn.version) l.fn.cursor.place ahead l.records.items (spot l.cursor (g.S.Input.told l.source).left);
  writable : All IsWritable l.records.items;
  sound : (g.S.Input.told l.source).faults ≡ (g.S.Input.told l.fn.source).faults;
}

abbrev pub decreases-records : goal.decreases-records
decreases-records g l = (l.most + 1) - l.cursor.place
