use Rattle.m17_floor.proofs.LikeLists.{none_stays, stay_more, verdict_left}
use Rattle.m17_floor.proofs.laws.one_act_more_goes_by_what_is_left.Goals as goal

pub returns-clause-stays : goal.returns-clause-stays
returns-clause-stays c = stay_more

pub returns-clause-verdict : goal.returns-clause-verdict
returns-clause-verdict c = verdict_left

pub returns-clause-nobody : goal.returns-clause-nobody
returns-clause-nobody c = none_stays
