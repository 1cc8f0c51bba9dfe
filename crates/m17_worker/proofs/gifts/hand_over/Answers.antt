use Rattle.std.proofs.Common.{◌≡◌, true, sym}
use Rattle.m17_worker.specs.Gifts.{is_bye}
use Rattle.m17_worker.proofs.Tries.{stands_in_queue}
use Rattle.m17_worker.proofs.Giving.{bye_waits}
use Rattle.m17_worker.proofs.gifts.hand_over.Goals as goal

pub give_back-requires : goal.give_back-requires
give_back-requires g c =
    let bye : is_bye c.args.item.now ≡ true = sym c.if-is_farewell.ensures in
    record {
      said = stands_in_queue c.args.item.now c.offer.result c.args.offers.now c.offer.new.self c.rows_grow.ensures (bye_waits c.args.item.now bye)
          c.requires.queue c.offer.ensures.tried;
    }
