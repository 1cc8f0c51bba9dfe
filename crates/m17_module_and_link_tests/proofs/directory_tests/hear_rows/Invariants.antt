use Rattle.std.proofs.Common.{◌≡◌, [], None}
use Rattle.m17_module_and_link_tests.proofs.directory_tests.hear_rows.Given as goal

abbrev pub invariant-loop-index : goal.invariant-loop-index
invariant-loop-index g l = (l.post ≡ []) × (l.d.asked ≡ None) × (l.d.setup.places ≡ l.places)
