use Rattle.m17_module.proofs.VerdictsFit.{verdicts_fit}
use Rattle.m17_module.proofs.laws.verdicts_fit.Goals as goal

pub returns : goal.returns
returns c = verdicts_fit
