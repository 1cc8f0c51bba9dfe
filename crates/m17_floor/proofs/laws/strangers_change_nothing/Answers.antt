use Rattle.m17_floor.proofs.Standing.{unheard_keeps, stranger_leaves, joins_past}
use Rattle.m17_floor.proofs.laws.strangers_change_nothing.Goals as goal

pub returns-clause-packets : goal.returns-clause-packets
returns-clause-packets c = unheard_keeps

pub returns-clause-leaves : goal.returns-clause-leaves
returns-clause-leaves c = stranger_leaves

pub returns-clause-joins : goal.returns-clause-joins
returns-clause-joins c = joins_past
