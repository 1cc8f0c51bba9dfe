use Rattle.m17_crew.proofs.Pairs.{all_done}
use Rattle.m17_crew.proofs.laws.all_jobs_come_back_done.Goals as goal

pub returns : goal.returns
returns g c = all_done g.W.Work.does
