use Rattle.std.proofs.Common.{◌≡◌}
use Rattle.m17_module_and_link_tests.proofs.room_tests.all_are_noted.Given as goal

abbrev pub invariant-loop-place : goal.invariant-loop-place
invariant-loop-place l = (l.d.asked ≡ l.initial.d.asked) × (l.d.setup ≡ l.initial.d.setup)
