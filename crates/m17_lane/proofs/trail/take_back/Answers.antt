use Rattle.m17_lane.proofs.Keeps.{merges}
use Rattle.m17_lane.proofs.trail.take_back.Goals as goal

pub absorb-requires-clause-rule : goal.absorb-requires-clause-rule
absorb-requires-clause-rule g c = merges _ _ _ _ c.requires.popper c.requires.some_part
