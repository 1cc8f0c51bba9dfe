use Rattle.m17_floor.proofs.Breaches.{breach_same, breach_within, legal_more, one_first}
use Rattle.m17_floor.proofs.NextBreach.{breach_next}
use Rattle.m17_floor.proofs.laws.books_are_judged_act_by_act.Goals as goal

pub returns-clause-later : goal.returns-clause-later
returns-clause-later c = breach_same

pub returns-clause-within : goal.returns-clause-within
returns-clause-within c = breach_within

pub returns-clause-one_more : goal.returns-clause-one_more
returns-clause-one_more c = legal_more

pub returns-clause-one_first : goal.returns-clause-one_first
returns-clause-one_first c = one_first

pub returns-clause-next : goal.returns-clause-next
returns-clause-next c = breach_next
