use Rattle.std.proofs.Common.{◌≡◌, All, None}
use Rattle.m17_job_tests.proofs.receiver_bench.empty_tape.Given as goal

abbrev pub invariant-cells : goal.invariant-cells
invariant-cells l = All (λ cell. cell ≡ None) l.tape.items
