use Rattle.std.proofs.Common.{refl}
use Rattle.m17_floor.specs.Floor.{admitted_count, verdicts_before}
use Rattle.m17_floor.proofs.Counted.{count_more}
use Rattle.m17_floor.proofs.laws.admitted_positions_are_counted.Goals as goal

pub returns-clause-none : goal.returns-clause-none
unfolding admitted_count verdicts_before
returns-clause-none c = λ setup. refl

pub returns-clause-one_more : goal.returns-clause-one_more
returns-clause-one_more c = count_more
