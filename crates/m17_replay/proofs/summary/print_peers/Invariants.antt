use Rattle.std.proofs.Common.{◌≡◌, Ok, take}
use Rattle.m17_values.specs.declared.failures.Failed.{Failed}
use Rattle.m17_values.specs.declared.peer.Peer.{Peer}
use Rattle.m17_ports.specs.declared.tally.Tally.{Tally}
use Rattle.m17_replay.specs.Summary.{peers_text}
use Rattle.m17_replay.specs.Run.{TalliesAre, Writes}
use Rattle.m17_replay.proofs.summary.print_peers.Given as goal

-- the lines of so many peers were written, and the sink has not failed
abbrev pub invariant-loop-peer : goal.invariant-loop-peer
invariant-loop-peer g l = record {
  faults : (g.K.Sink.told l.out).faults ≡ (g.K.Sink.told l.fn.out).faults;
  writes : (tally : Peer → Tally) → TalliesAre tally l.fn.mouth
      → Writes {T = Unit {0}} {E = Failed} (Ok tt) (peers_text tally (take l.peer-index l.fn.named)) (g.K.Sink.told l.fn.out).written (g.K.Sink.told l.out).written;
}
