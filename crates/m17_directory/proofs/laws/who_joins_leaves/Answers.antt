use Rattle.m17_directory.proofs.LawLeaves.{who_leaves}
use Rattle.m17_directory.proofs.laws.who_joins_leaves.Goals as goal

pub returns : goal.returns
returns c = who_leaves
