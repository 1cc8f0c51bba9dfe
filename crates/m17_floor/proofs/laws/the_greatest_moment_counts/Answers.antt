use Rattle.m17_floor.proofs.OneMore.{moment_end, moment_after}
use Rattle.m17_floor.proofs.laws.the_greatest_moment_counts.Goals as goal

pub returns-clause-here : goal.returns-clause-here
returns-clause-here c = moment_end

pub returns-clause-after : goal.returns-clause-after
returns-clause-after c = moment_after
