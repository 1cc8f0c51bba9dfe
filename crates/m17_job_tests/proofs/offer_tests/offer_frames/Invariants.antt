use Rattle.m17_worker.specs.Offers.{AreQueues}
use Rattle.m17_job_tests.proofs.offer_tests.offer_frames.Given as goal

abbrev pub invariant-loop : goal.invariant-loop
invariant-loop g l = AreQueues 1 l.offers.queues.items
