use Rattle.m17_lane.proofs.Keeps.{first}
use Rattle.m17_lane.proofs.making.make_for.Goals as goal

pub ruled-requires-clause-rule : goal.ruled-requires-clause-rule
ruled-requires-clause-rule g c = first
