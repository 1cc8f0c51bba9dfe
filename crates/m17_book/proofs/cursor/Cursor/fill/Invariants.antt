use Rattle.std.proofs.Common.{◌≡◌, ℕ, ◌-◌, List, length}
use Rattle.m17_book.specs.Ahead.{held, IsAhead}
use Rattle.m17_book.proofs.cursor.Cursor.fill.Given as goal

-- the same is to come of the input, and the source has not failed
abbrev pub invariant-reads : goal.invariant-reads
invariant-reads g l = record {
  kept : (ahead : List ℕ) → IsAhead (held l.fn.self) (g.S.Input.told l.fn.source).left ahead → IsAhead (held l.self) (g.S.Input.told l.source).left ahead;
  sound : (g.S.Input.told l.source).faults ≡ (g.S.Input.told l.fn.source).faults;
  place : l.self.place ≡ l.fn.self.place;
}

abbrev pub decreases-reads : goal.decreases-reads
decreases-reads g l = 97 - length (held l.self)
