use Rattle.std.proofs.Common.{◌≡◌, ◌+◌, ◌-◌, ◌≤◌, ◌++◌, length, map, filter}
use Rattle.std.specs.List.{range_with_len}
use Rattle.m17_control.specs.Modules.{serves}
use Rattle.m17_directory.specs.Outcome.{to_module}
use Rattle.m17_directory.proofs.stamp.Stamp.tell_each.Given as goal

abbrev pub invariant-loop-byte : goal.invariant-loop-byte
invariant-loop-byte l = record {
  told : l.post ≡ l.initial.post ++ map (λ letter. to_module l.self letter l.body) (filter (serves l.self.setup.modules) (range_with_len 65 (l.byte - 65)));
  few : length l.post ≤ length l.initial.post + (l.byte - 65);
}
