use Rattle.std.proofs.Common.{◌≡◌, [], None}
use Rattle.m17_module_and_link_tests.proofs.directory_tests.the_sixteenth_failure_in_a_row_ends_the_link.Given as goal

abbrev pub invariant-loop-from : goal.invariant-loop-from
invariant-loop-from g l = (l.post ≡ []) × (l.d.asked ≡ None) × (l.d.setup.places ≡ 64)
