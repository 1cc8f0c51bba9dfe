use Rattle.m17_lane.proofs.Grids.{law}
use Rattle.m17_lane.proofs.rows_laws.grids_pop.Goals as goal

pub returns : goal.returns
returns g c = law
