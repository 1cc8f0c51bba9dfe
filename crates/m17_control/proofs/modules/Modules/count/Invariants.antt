use Rattle.std.proofs.Common.{◌≡◌, ◌-◌, ◌≤◌, take, length, filter}
use Rattle.std.specs.List.{range_with_len}
use Rattle.m17_control.specs.Modules.{serves}
use Rattle.m17_control.proofs.modules.Modules.count.Given as goal

abbrev pub invariant-loop-letter : goal.invariant-loop-letter
invariant-loop-letter l = record {
  counted : l.count ≡ length (filter (serves l.self) (take (l.letter - 65) (range_with_len 65 26)));
  few : l.count ≤ l.letter - 65;
}
