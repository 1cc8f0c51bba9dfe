use Rattle.m17_floor.proofs.Repeats.{passed_is_refused, talked_out_is_refused}
use Rattle.m17_floor.proofs.laws.repeats_are_not_admitted.Goals as goal

pub returns-clause-passed : goal.returns-clause-passed
returns-clause-passed c = passed_is_refused

pub returns-clause-timed_out : goal.returns-clause-timed_out
returns-clause-timed_out c = talked_out_is_refused

pub returns-clause-repeats : goal.returns-clause-repeats
returns-clause-repeats c = λ setup acts n a b k p copied last is earlier sid number own own_sid past. passed_is_refused setup acts n b k p last is own own_sid past
