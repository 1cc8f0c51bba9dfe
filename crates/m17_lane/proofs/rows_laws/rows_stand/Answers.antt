use Rattle.m17_lane.proofs.Stands.{rows}
use Rattle.m17_lane.proofs.rows_laws.rows_stand.Goals as goal

pub returns : goal.returns
returns g c = rows
