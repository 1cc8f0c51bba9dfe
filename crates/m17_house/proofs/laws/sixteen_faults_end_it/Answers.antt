use Rattle.m17_house.proofs.FaultsEnd.{faults_end_it}
use Rattle.m17_house.proofs.laws.sixteen_faults_end_it.Goals as goal

pub returns : goal.returns
returns c = faults_end_it
