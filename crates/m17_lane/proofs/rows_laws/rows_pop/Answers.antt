use Rattle.m17_lane.proofs.Pops.{law}
use Rattle.m17_lane.proofs.rows_laws.rows_pop.Goals as goal

pub returns : goal.returns
returns g c = law
