use Rattle.std.proofs.Common.{◌≡◌}
use Rattle.m17_net.specs.Wire.{IsPassing}
use Rattle.m17_net.proofs.Tries.{HasTried}
use Rattle.m17_net.proofs.taking.send_one.Given as goal

-- the socket has taken and sent nothing yet, and each call so far gave an error that is worth another call
abbrev pub invariant-loop : goal.invariant-loop
invariant-loop g l = record {
  taken : g.W.Wire.taken l.wire ≡ g.W.Wire.taken l.fn.wire;
  sent : g.W.Wire.sent l.wire ≡ g.W.Wire.sent l.fn.wire;
  broken : g.W.Wire.broken l.wire ≡ g.W.Wire.broken l.fn.wire;
  unsent : HasTried IsPassing l.counter (g.W.Wire.unsent l.fn.wire) (g.W.Wire.unsent l.wire);
}
