use Rattle.m17_gate.proofs.Routes.{none_routed}
use Rattle.m17_gate.proofs.laws.denied_never_reaches_a_module.Goals as goal

pub returns : goal.returns
returns c = none_routed c.denied_is_not_heard.ensures
