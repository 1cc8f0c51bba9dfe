use Rattle.m17_directory.proofs.LawFollows.{leaves_follow}
use Rattle.m17_directory.proofs.laws.leaves_follow_joins.Goals as goal

pub returns : goal.returns
returns c = leaves_follow
