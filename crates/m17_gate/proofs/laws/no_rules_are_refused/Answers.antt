use Rattle.m17_gate.proofs.Refusals.{none_refused}
use Rattle.m17_gate.proofs.laws.no_rules_are_refused.Goals as goal

pub returns : goal.returns
returns c = none_refused
