use Rattle.m17_lane.proofs.Folds.{shuffle}
use Rattle.m17_lane.proofs.laws.order_is_a_shuffle.Goals as goal

pub returns : goal.returns
returns g c = shuffle
