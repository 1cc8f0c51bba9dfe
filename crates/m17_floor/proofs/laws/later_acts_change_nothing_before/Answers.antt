use Rattle.m17_floor.proofs.OneMore.{kind_end}
use Rattle.m17_floor.proofs.Prefix.{kind_before, joined_before, moment_before_same, moment_at_same}
use Rattle.m17_floor.proofs.laws.later_acts_change_nothing_before.Goals as goal

pub returns-clause-members : goal.returns-clause-members
returns-clause-members c = joined_before

pub returns-clause-moments : goal.returns-clause-moments
returns-clause-moments c = moment_at_same

pub returns-clause-moments_before : goal.returns-clause-moments_before
returns-clause-moments_before c = moment_before_same

pub returns-clause-kinds : goal.returns-clause-kinds
returns-clause-kinds c = kind_before

pub returns-clause-one_more : goal.returns-clause-one_more
returns-clause-one_more c = kind_end
