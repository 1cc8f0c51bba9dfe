use Rattle.m17_lane.proofs.Keeps.{pushes, onlys}
use Rattle.m17_lane.proofs.lane.put.Goals as goal

pub push_as-answer-requires-clause-rule : goal.push_as-answer-requires-clause-rule
push_as-answer-requires-clause-rule g c = (pushes _ _ _ _ c.requires.pusher, onlys _ _ c.requires.pusher)
