use Rattle.m17_decorators.proofs.Rule.{no_more}
use Rattle.m17_decorators.proofs.pace_laws.no_more_in_any_second.Goals as goal

pub returns : goal.returns
returns c = no_more
