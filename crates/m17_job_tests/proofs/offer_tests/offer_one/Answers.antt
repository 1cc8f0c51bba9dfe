use Rattle.std.proofs.Common.{◌∷◌, []}
use Rattle.m17_worker.specs.Offers.{try_of}
use Rattle.m17_job_tests.proofs.Queues.{queues_stay}
use Rattle.m17_job_tests.proofs.offer_tests.offer_one.Goals as goal

pub returns : goal.returns
returns g c =
    queues_stay 1 (try_of c.args.item c.offer.result ∷ []) c.args.offers.now c.offer.new.self c.rows_grow.ensures c.offer.ensures.tried c.requires.queues
