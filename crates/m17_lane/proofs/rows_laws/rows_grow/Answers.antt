use Rattle.m17_lane.proofs.Grown.{law}
use Rattle.m17_lane.proofs.rows_laws.rows_grow.Goals as goal

pub returns : goal.returns
returns g c = law
