use Rattle.m17_lane.specs.Rows.{IsNewRow}
use Rattle.m17_worker.specs.Offers.{AreQueues}
use Rattle.m17_job_tests.proofs.worker_bench.lay_queues.Given as goal

abbrev pub invariant-loop : goal.invariant-loop
invariant-loop g l = record {
  queues : AreQueues l.counter l.pushers.items;
  new : IsNewRow l.pushers.items;
}
