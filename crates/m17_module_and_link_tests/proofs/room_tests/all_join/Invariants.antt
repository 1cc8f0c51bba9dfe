use Rattle.std.proofs.Common.{◌≡◌, None}
use Rattle.m17_module_and_link_tests.proofs.room_tests.all_join.Given as goal

abbrev pub invariant-loop-place : goal.invariant-loop-place
invariant-loop-place g l = (l.d.asked ≡ None) × (l.d.setup.places ≡ 256)
