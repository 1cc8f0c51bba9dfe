use Rattle.std.proofs.Common.{◌≡◌, length}
use Rattle.m17_lane.specs.Rows.{IsNewRow}
use Rattle.m17_job_tests.proofs.receiver_bench.inboxes.Given as goal

abbrev pub invariant-inboxes : goal.invariant-inboxes
invariant-inboxes g l = record { count : length l.pushers.items ≡ l._made; unused : IsNewRow l.pushers.items }
