use Rattle.m17_ports.proofs.Saying.{say-nothing, one-went, one-lost, say-in-turn}
use Rattle.m17_ports.proofs.laws.mouths_say_in_turn.Goals as goal

pub returns : goal.returns
returns g c =
    record { nothing = say-nothing; one_went = one-went; one_lost = one-lost; in_turn = say-in-turn }
