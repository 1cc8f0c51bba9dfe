use Rattle.m17_directory.proofs.LawPosts.{ended_where}
use Rattle.m17_directory.proofs.laws.ended_where_it_ends.Goals as goal

pub returns : goal.returns
returns c = ended_where
