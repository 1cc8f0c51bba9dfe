use Rattle.m17_module.proofs.Between.{in_from_join_to_end}
use Rattle.m17_module.proofs.Life.{share_is_a_life, never_joins}
use Rattle.m17_module.proofs.laws.share_is_the_others_frames.Goals as goal

pub returns-clause-life : goal.returns-clause-life
returns-clause-life c = share_is_a_life

pub returns-clause-strangers : goal.returns-clause-strangers
returns-clause-strangers c = never_joins

pub returns-clause-between : goal.returns-clause-between
returns-clause-between c = in_from_join_to_end
