use Rattle.m17_directory.proofs.LawNamed.{named_in_order}
use Rattle.m17_directory.proofs.laws.peers_are_named_in_order.Goals as goal

pub returns : goal.returns
returns c = named_in_order
