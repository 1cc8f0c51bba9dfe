use Rattle.m17_floor.proofs.Standing.{other_keeps}
use Rattle.m17_floor.proofs.laws.other_acts_change_nothing.Goals as goal

pub returns : goal.returns
returns c = other_keeps
