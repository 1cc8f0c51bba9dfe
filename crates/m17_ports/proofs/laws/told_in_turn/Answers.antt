use Rattle.m17_ports.proofs.Telling.{told-in-turn, nothing-more}
use Rattle.m17_ports.proofs.laws.told_in_turn.Goals as goal

pub returns-clause-parts : goal.returns-clause-parts
returns-clause-parts g c = told-in-turn

pub returns-clause-nothing : goal.returns-clause-nothing
returns-clause-nothing g c = nothing-more
