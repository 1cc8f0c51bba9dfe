use Rattle.m17_floor.proofs.Joins.{one_at_a_place}
use Rattle.m17_floor.proofs.OneMore.{membership_more}
use Rattle.m17_floor.proofs.laws.one_member_at_a_place.Goals as goal

pub returns-clause-after_one_more : goal.returns-clause-after_one_more
returns-clause-after_one_more c = membership_more

pub returns-clause-one : goal.returns-clause-one
returns-clause-one c = one_at_a_place
