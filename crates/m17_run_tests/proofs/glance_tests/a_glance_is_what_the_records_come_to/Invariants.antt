use Rattle.m17_board.specs.Ends.{IsPair}
use Rattle.m17_run_tests.proofs.glance_tests.a_glance_is_what_the_records_come_to.Given as goal

-- the poster and the eye stay those of one module
abbrev pub invariant-loop-one : goal.invariant-loop-one
invariant-loop-one g l = IsPair l.poster l.eye
