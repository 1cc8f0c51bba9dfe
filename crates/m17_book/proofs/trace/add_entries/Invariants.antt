use Rattle.std.proofs.Common.{◌≡◌, ℕ, ◌-◌, ◌≤◌, List, length}
use Rattle.m17_book.specs.Entries.{SpellsEntry}
use Rattle.m17_book.specs.Walk.{spot, IsAt, HasPassed}
use Rattle.m17_book.proofs.trace.add_entries.Given as goal

-- the entries so far were passed, and the source has not failed
abbrev pub invariant-entries : goal.invariant-entries
invariant-entries g l = record {
  passed : (ahead : List ℕ) → IsAt (spot l.fn.cursor (g.S.Input.told l.fn.source).left) ahead
      → HasPassed SpellsEntry l.fn.cursor.place ahead l.heard.items (spot l.cursor (g.S.Input.told l.source).left);
  few : length l.heard.items ≤ 1000000;
  sound : (g.S.Input.told l.source).faults ≡ (g.S.Input.told l.fn.source).faults;
}

abbrev pub decreases-entries : goal.decreases-entries
decreases-entries g l = 1000001 - length l.heard.items
