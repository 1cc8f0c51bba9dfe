use Rattle.m17_decorators.proofs.Packets.{packets_stay}
use Rattle.m17_decorators.proofs.fill_laws.packets_stay.Goals as goal

pub returns : goal.returns
returns c = packets_stay
