use Rattle.m17_sender.proofs.Marked.{told_in_order}
use Rattle.m17_sender.proofs.laws.peers_are_told_in_order.Goals as goal

pub returns : goal.returns
returns c = told_in_order
