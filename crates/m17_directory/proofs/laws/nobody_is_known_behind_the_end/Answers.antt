use Rattle.m17_directory.proofs.LawEnds.{nobody_known}
use Rattle.m17_directory.proofs.laws.nobody_is_known_behind_the_end.Goals as goal

pub returns : goal.returns
returns c = nobody_known
