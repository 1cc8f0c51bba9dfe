use Rattle.std.proofs.Common.{◌≡◌}
use Rattle.m17_net.proofs.taking.take_one.Given as goal

-- the socket has taken and sent nothing yet
abbrev pub invariant-loop : goal.invariant-loop
invariant-loop g l = record {
  taken : g.W.Wire.taken l.wire ≡ g.W.Wire.taken l.fn.wire;
  sent : g.W.Wire.sent l.wire ≡ g.W.Wire.sent l.fn.wire;
  broken : g.W.Wire.broken l.wire ≡ g.W.Wire.broken l.fn.wire;
  waits : g.W.Wire.waits l.wire ≡ g.W.Wire.waits l.fn.wire;
}
