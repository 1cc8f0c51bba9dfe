use Rattle.std.proofs.Common.{◌≡◌}
use Rattle.m17_board.specs.Shows.{shown_of, Looked, HasPassed}
use Rattle.m17_board.proofs.watch.Watch.watch.Given as goal

abbrev pub invariant-loop : goal.invariant-loop
invariant-loop g l = record {
  modules_are : l.self.modules ≡ l.initial.self.modules;
  looked : Looked g.B.Book.told l.initial.self.modules (shown_of l.initial.self) (shown_of l.self);
  passed : HasPassed l.initial.self.order l.self.order;
}
