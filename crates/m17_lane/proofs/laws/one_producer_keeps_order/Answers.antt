use Rattle.m17_lane.proofs.Folds.{one_producer}
use Rattle.m17_lane.proofs.laws.one_producer_keeps_order.Goals as goal

pub returns : goal.returns
returns g c = one_producer
