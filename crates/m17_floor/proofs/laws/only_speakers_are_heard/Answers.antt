use Rattle.m17_floor.proofs.Positions.{no_verdict, stranger_verdict, listener_verdict}
use Rattle.m17_floor.proofs.laws.only_speakers_are_heard.Goals as goal

pub returns-clause-packets : goal.returns-clause-packets
returns-clause-packets c = no_verdict

pub returns-clause-strangers : goal.returns-clause-strangers
returns-clause-strangers c = stranger_verdict

pub returns-clause-listeners : goal.returns-clause-listeners
returns-clause-listeners c = listener_verdict
