use Rattle.std.proofs.Common.{◌≡◌, ◌++◌, map, filter, take}
use Rattle.m17_directory.specs.Outcome.{leave}
use Rattle.m17_directory.specs.StandsFor.{with_left}
use Rattle.m17_directory.specs.Steps.{is_among}
use Rattle.m17_directory.proofs.people.say_leaves.Given as goal

abbrev pub invariant-loop-known : goal.invariant-loop-known
invariant-loop-known l = record {
  told : l.post ≡ l.initial.post ++ map (leave l.stamp l.why) (filter (is_among l.whom) (take l.known-index l.rows));
  left : l.departing ≡ with_left l.initial.departing (filter (is_among l.whom) (take l.known-index l.rows));
}
