use Rattle.m17_lane.proofs.Stands.{grids}
use Rattle.m17_lane.proofs.rows_laws.grids_stand.Goals as goal

pub returns : goal.returns
returns g c = grids
