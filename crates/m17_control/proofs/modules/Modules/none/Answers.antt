-- No bit is set.
use Rattle.std.proofs.Common.{refl}
use Rattle.m17_control.proofs.ModuleSets.{none_served}
use Rattle.m17_control.proofs.modules.Modules.none.Goals as goal

pub returns-clause-none : goal.returns-clause-none
returns-clause-none c = λ letter. none_served _ letter refl
