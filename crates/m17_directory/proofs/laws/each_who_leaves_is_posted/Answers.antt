use Rattle.m17_directory.proofs.LawPosts.{leaves_posted}
use Rattle.m17_directory.proofs.laws.each_who_leaves_is_posted.Goals as goal

pub returns : goal.returns
returns c = leaves_posted
