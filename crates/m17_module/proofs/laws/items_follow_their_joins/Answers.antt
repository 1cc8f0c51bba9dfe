use Rattle.m17_module.proofs.ItemsHold.{items_follow_their_joins}
use Rattle.m17_module.proofs.laws.items_follow_their_joins.Goals as goal

pub returns : goal.returns
returns c = items_follow_their_joins
