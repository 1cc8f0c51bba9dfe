use Rattle.m17_board.specs.Shows.{HasPassed}
use Rattle.m17_board.proofs.watch.hears_quit.Given as goal

abbrev pub invariant-loop : goal.invariant-loop
invariant-loop g l = HasPassed l.initial.orders l.orders
