use Rattle.m17_serve.proofs.Asking.{none_asks, one_asks, one_fails}
use Rattle.m17_serve.proofs.opening.open_lines.Goals as goal

pub returns-in-Ok-clause-asks : goal.returns-in-Ok-clause-asks
returns-in-Ok-clause-asks g c = rw c.in-Some.is (one_asks _ _ _ _ (rw c.as_str.ensures.value at c.in-Ok.ensures.asked) c.in-Ok.ensures.cause.no_fault)

pub returns-in-Ok-clause-new : goal.returns-in-Ok-clause-new
returns-in-Ok-clause-new g c = rw c.in-Some.is c.in-Ok.ensures.book

pub returns-in-Err-clause-asks : goal.returns-in-Err-clause-asks
returns-in-Err-clause-asks g c = rw c.in-Some.is (one_fails _ _ _ _ (rw c.as_str.ensures.value at c.in-Err.ensures.asked) c.in-Err.ensures.cause.failed)

pub returns-in-None-clause-asks : goal.returns-in-None-clause-asks
returns-in-None-clause-asks g c = rw c.in-None.is (none_asks _ _)
