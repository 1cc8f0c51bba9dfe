use Rattle.std.proofs.Common.{length}
use Rattle.m17_module_and_link_tests.proofs.seen.drain.Given as goal

abbrev pub decreases-loop-dispatch : goal.decreases-loop-dispatch
decreases-loop-dispatch l = length l.post
