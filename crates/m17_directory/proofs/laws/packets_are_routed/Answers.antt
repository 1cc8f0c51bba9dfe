use Rattle.m17_directory.proofs.LawPosts.{packets_routed}
use Rattle.m17_directory.proofs.laws.packets_are_routed.Goals as goal

pub returns : goal.returns
returns c = packets_routed
