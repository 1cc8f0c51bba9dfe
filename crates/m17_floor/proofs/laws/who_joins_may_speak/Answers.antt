use Rattle.std.proofs.Common.{false}
use Rattle.m17_floor.proofs.Joins.{joined_speaks}
use Rattle.m17_floor.proofs.Standing.{join_leaves}
use Rattle.m17_floor.proofs.laws.who_joins_may_speak.Goals as goal

pub returns-clause-joined : goal.returns-clause-joined
returns-clause-joined c = joined_speaks

pub returns-clause-others : goal.returns-clause-others
returns-clause-others c = λ setup acts k at m other speaks. (join_leaves setup acts at k false m other).speaks speaks
