use Rattle.m17_gate.proofs.GateLemmas.{none_denied}
use Rattle.m17_gate.proofs.laws.denied_is_not_heard.Goals as goal

pub returns : goal.returns
returns c = none_denied c.bytes_ask_as_packets.ensures
