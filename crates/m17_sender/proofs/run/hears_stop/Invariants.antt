use Rattle.m17_sender.specs.SoFar.{HasPassed}
use Rattle.m17_sender.proofs.run.hears_stop.Given as goal

abbrev pub invariant-loop : goal.invariant-loop
invariant-loop g l = HasPassed l.initial.orders l.orders
