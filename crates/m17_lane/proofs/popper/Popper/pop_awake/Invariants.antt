use Rattle.std.proofs.Common.{◌≡◌}
use Rattle.m17_lane.proofs.popper.Popper.pop_awake.Given as goal

-- while it waits the end stays as it was
abbrev pub invariant-loop-waited : goal.invariant-loop-waited
invariant-loop-waited g l = l.self ≡ l.initial.self
