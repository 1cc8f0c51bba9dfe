-- One bit more is set.
use Rattle.std.proofs.Common.{refl}
use Rattle.m17_control.proofs.ModuleSets.{put_it, put_other}
use Rattle.m17_control.proofs.ModuleBits.{put_set}
use Rattle.m17_control.proofs.modules.Modules.put.Goals as goal

pub returns-clause-it : goal.returns-clause-it
returns-clause-it c = put_it c.args.self.now _ c.args.letter c.requires.0 c.requires.1 refl

pub returns-clause-others : goal.returns-clause-others
returns-clause-others c = λ other ne. put_other c.args.self.now _ c.args.letter other c.requires.0 c.requires.1 refl ne

pub returns-clause-set : goal.returns-clause-set
returns-clause-set c = λ small. put_set c.args.self.now _ c.args.letter c.requires.0 c.requires.1 refl small
