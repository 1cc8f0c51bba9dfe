use Rattle.m17_decorators.proofs.Rule.{decided-keeps}
use Rattle.m17_decorators.proofs.pace_laws.what_is_decided_keeps_pace.Goals as goal

pub returns : goal.returns
returns c = decided-keeps
