use Rattle.m17_ports.proofs.Telling.{new-ears-tell, ears-tell-on}
use Rattle.m17_ports.proofs.laws.ears_tell_up_to_the_end.Goals as goal

pub returns-clause-new : goal.returns-clause-new
returns-clause-new c = new-ears-tell

pub returns-clause-on : goal.returns-clause-on
returns-clause-on c = ears-tell-on
