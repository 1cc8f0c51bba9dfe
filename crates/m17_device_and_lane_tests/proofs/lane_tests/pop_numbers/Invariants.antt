use Rattle.std.proofs.Common.{◌≡◌}
use Rattle.m17_device_and_lane_tests.proofs.lane_tests.pop_numbers.Given as goal

abbrev pub invariant-loop-popped : goal.invariant-loop-popped
invariant-loop-popped g l = (l.end.lane ≡ l.initial.end.lane) × (l.end.producers ≡ l.initial.end.producers)
