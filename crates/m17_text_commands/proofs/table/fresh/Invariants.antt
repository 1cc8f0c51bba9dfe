use Rattle.std.proofs.Common.{◌≡◌, ℕ, length, slice_get, Option, Some}
use Rattle.m17_floor.specs.Rule.{Frame}
use Rattle.m17_text_commands.specs.Table.{StandsAtFirst}
use Rattle.m17_text_commands.proofs.table.fresh.Given as goal

abbrev pub invariant-loop-talker : goal.invariant-loop-talker
invariant-loop-talker l = record {
  count : length l.owns.items ≡ l._talker;
  at_first : (t : ℕ) (own : Option Frame) → slice_get l.owns.items t ≡ Some own → StandsAtFirst own;
}
