use Rattle.m17_gate.proofs.GateLemmas.{gate_spelled, gate_refused}
use Rattle.m17_gate.proofs.laws.gate_is_exact.Goals as goal

pub returns : goal.returns
returns c = record {
  spelled = gate_spelled c.bytes_ask_as_packets.ensures;
  refused = gate_refused c.bytes_ask_as_packets.ensures;
}
