use Rattle.std.proofs.Common.{◌≡◌}
use Rattle.m17_worker.specs.Taken.{HasStops}
use Rattle.m17_worker.specs.Underway.{IsAt}
use Rattle.m17_worker.proofs.worker.Worker.work.Given as goal

abbrev pub invariant-loop : goal.invariant-loop
invariant-loop g l = record {
  at : IsAt g.B.Book.told l.fn.self l.served l.stopped l.self;
  going : HasStops l.fn.self.links l.self.inbox.popped → ⊥;
  order : l.self.order ≡ l.fn.self.order;
}
