use Rattle.m17_crew.proofs.Pairs.{in_order}
use Rattle.m17_crew.proofs.laws.jobs_come_back_in_order.Goals as goal

pub returns : goal.returns
returns g c = in_order g.W.Work.does
