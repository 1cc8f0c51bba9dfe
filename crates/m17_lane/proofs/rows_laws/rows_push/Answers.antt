use Rattle.m17_lane.proofs.Pushes.{law}
use Rattle.m17_lane.proofs.rows_laws.rows_push.Goals as goal

pub returns : goal.returns
returns g c = law
