use Rattle.std.proofs.Common.{◌≡◌}
use Rattle.m17_device_and_lane_tests.proofs.lane_tests.push_numbers.Given as goal

abbrev pub invariant-loop-i : goal.invariant-loop-i
invariant-loop-i g l = l.end.lane ≡ l.initial.end.lane
