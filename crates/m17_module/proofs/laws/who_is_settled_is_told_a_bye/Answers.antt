use Rattle.m17_module.proofs.Byes.{settled_told}
use Rattle.m17_module.proofs.laws.who_is_settled_is_told_a_bye.Goals as goal

pub returns : goal.returns
returns c = settled_told
