use Rattle.std.proofs.Common.{◌≡◌}
use Rattle.m17_port_memory.specs.Peers.{named_in}
use Rattle.m17_replay.proofs.UnderWay.{IsUnderWay}
use Rattle.m17_replay.proofs.playing.hear_each.Given as goal

abbrev pub invariant-loop-index : goal.invariant-loop-index
invariant-loop-index g l = record {
  way : IsUnderWay l.fn.plan l.fn.heard l.index l.run l.mouth l.printer (g.K.Sink.told l.fn.out) (g.K.Sink.told l.out);
  summary : l.printer.summary ≡ l.fn.printer.summary;
  peers : named_in l.mouth.entries ≡ named_in l.fn.mouth.entries;
}
