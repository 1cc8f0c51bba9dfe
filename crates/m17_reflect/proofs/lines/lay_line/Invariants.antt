use Rattle.std.proofs.Common.{◌≡◌, ◌≤◌, vec_len, vec_capacity}
use Rattle.m17_reflect.specs.Ends.{IsNewLine}
use Rattle.m17_reflect.proofs.lines.lay_line.Given as goal

-- so many lanes are laid, and there is room for the others
abbrev pub invariant-loop-laid : goal.invariant-loop-laid
invariant-loop-laid g l = record {
  line : IsNewLine l.fn.capacity l.pushers.items l.poppers.items;
  pushers : (vec_len l.pushers ≡ l._laid) × (l.fn.count ≤ vec_capacity l.pushers);
  poppers : (vec_len l.poppers ≡ l._laid) × (l.fn.count ≤ vec_capacity l.poppers);
}
