use Rattle.std.proofs.Common.{◌≡◌, ℕ, ◌+◌, ◌-◌, List, length}
use Rattle.m17_book.specs.Ahead.{held, IsAhead}
use Rattle.m17_book.proofs.Far.{IsOf}
use Rattle.m17_book.proofs.cursor.Cursor.goes_too_far.Given as goal

-- the input has as many bytes as before, and the source has not failed
abbrev pub invariant-reads : goal.invariant-reads
invariant-reads g l = record {
  kept : (ahead : List ℕ) → IsAhead (held l.fn.self) (g.S.Input.told l.fn.source).left ahead
      → IsOf (held l.self) (g.S.Input.told l.source).left l.self.place (l.fn.self.place + length ahead);
  sound : (g.S.Input.told l.source).faults ≡ (g.S.Input.told l.fn.source).faults;
}

abbrev pub decreases-reads : goal.decreases-reads
decreases-reads g l = (l.fn.most + 1) - (l.self.place + length (held l.self))
