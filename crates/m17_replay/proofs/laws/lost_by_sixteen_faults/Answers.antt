use Rattle.m17_replay.proofs.Lost.{lost_by_faults}
use Rattle.m17_replay.proofs.laws.lost_by_sixteen_faults.Goals as goal

pub returns : goal.returns
returns c = lost_by_faults c.traces_are_exact.ensures c.sixteen_faults_end_it.ensures
