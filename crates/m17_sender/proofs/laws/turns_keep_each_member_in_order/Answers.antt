use Rattle.m17_sender.proofs.InOrder.{in_order}
use Rattle.m17_sender.proofs.laws.turns_keep_each_member_in_order.Goals as goal

pub returns : goal.returns
returns c = in_order
