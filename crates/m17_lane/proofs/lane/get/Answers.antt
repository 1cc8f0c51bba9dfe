use Rattle.m17_lane.proofs.Keeps.{pops}
use Rattle.m17_lane.proofs.lane.get.Goals as goal

pub pop_as-item-requires-clause-rule : goal.pop_as-item-requires-clause-rule
pop_as-item-requires-clause-rule g c = (pops _ _ c.requires.popper, λ items views h at. tt)
