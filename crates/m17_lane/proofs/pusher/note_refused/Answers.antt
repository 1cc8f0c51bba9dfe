use Rattle.m17_lane.proofs.Keeps.{notes}
use Rattle.m17_lane.proofs.pusher.note_refused.Goals as goal

pub another-requires-clause-rule : goal.another-requires-clause-rule
another-requires-clause-rule g c = notes _ _ _ c.requires.pusher
