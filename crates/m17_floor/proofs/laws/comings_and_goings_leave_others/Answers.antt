use Rattle.m17_floor.proofs.Joins.{join_free}
use Rattle.m17_floor.proofs.Standing.{leave_leaves, join_leaves}
use Rattle.m17_floor.proofs.laws.comings_and_goings_leave_others.Goals as goal

pub returns-clause-leaves : goal.returns-clause-leaves
returns-clause-leaves c = leave_leaves

pub returns-clause-joins : goal.returns-clause-joins
returns-clause-joins c = join_leaves

pub returns-clause-floor : goal.returns-clause-floor
returns-clause-floor c = join_free
