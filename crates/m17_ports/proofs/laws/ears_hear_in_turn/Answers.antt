use Rattle.m17_ports.proofs.Hearing.{hear-nothing, hear-one, hear-in-turn}
use Rattle.m17_ports.proofs.laws.ears_hear_in_turn.Goals as goal

pub returns : goal.returns
returns g c = record { nothing = hear-nothing; one = hear-one; in_turn = hear-in-turn }
