use Rattle.m17_lane.proofs.Orders.{interleaving}
use Rattle.m17_lane.proofs.rows_laws.order_is_interleaving.Goals as goal

pub returns : goal.returns
returns g c = interleaving c.order_is_a_shuffle.ensures
