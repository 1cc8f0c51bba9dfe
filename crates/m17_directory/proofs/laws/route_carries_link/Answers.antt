use Rattle.m17_directory.proofs.LawRouted.{carries_link}
use Rattle.m17_directory.proofs.laws.route_carries_link.Goals as goal

pub returns : goal.returns
returns c = carries_link
