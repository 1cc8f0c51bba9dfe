use Rattle.std.proofs.Common.{◌≡◌}
use Rattle.m17_lane.proofs.popper.Popper.pop.Given as goal

-- while it waits the end stays as it was
abbrev pub invariant-loop : goal.invariant-loop
invariant-loop g l = l.self ≡ l.initial.self
