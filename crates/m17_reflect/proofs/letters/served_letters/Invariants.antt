use Rattle.std.proofs.Common.{◌≡◌, ◌+◌, ◌-◌, ◌≤◌, All, take, filter, vec_len, vec_capacity}
use Rattle.std.specs.List.{range_with_len}
use Rattle.m17_control.specs.Forms.{IsModule}
use Rattle.m17_control.specs.Modules.{serves}
use Rattle.m17_reflect.proofs.letters.served_letters.Given as goal

-- the letters so far that are served
abbrev pub invariant-loop-letter : goal.invariant-loop-letter
invariant-loop-letter l = record {
  letters : l.letters.items ≡ filter (serves l.fn.modules) (take (l.letter - 65) (range_with_len 65 26));
  each : All IsModule l.letters.items;
  few : vec_len l.letters + 65 ≤ l.letter;
  room : 26 ≤ vec_capacity l.letters;
}
