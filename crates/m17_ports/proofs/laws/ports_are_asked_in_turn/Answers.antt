use Rattle.m17_ports.proofs.Asking.{ask-nothing, ask-in-turn}
use Rattle.m17_ports.proofs.laws.ports_are_asked_in_turn.Goals as goal

pub returns : goal.returns
returns c = record { nothing = ask-nothing; in_turn = ask-in-turn }
