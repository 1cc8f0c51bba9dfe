use Rattle.m17_directory.proofs.LawRouted.{only_served}
use Rattle.m17_directory.proofs.laws.only_served_are_routed.Goals as goal

pub returns : goal.returns
returns c = only_served
