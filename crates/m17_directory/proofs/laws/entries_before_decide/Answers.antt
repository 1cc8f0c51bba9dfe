use Rattle.m17_directory.proofs.LawMore.{before_decide}
use Rattle.m17_directory.proofs.laws.entries_before_decide.Goals as goal

pub returns : goal.returns
returns c = before_decide
