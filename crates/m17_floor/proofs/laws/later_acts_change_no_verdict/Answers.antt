use Rattle.m17_floor.proofs.Prefix.{verdict_same}
use Rattle.m17_floor.proofs.laws.later_acts_change_no_verdict.Goals as goal

pub returns : goal.returns
returns c = verdict_same
