use Rattle.std.proofs.Common.{refl, ◌∙◌, ap, arith}
use Rattle.std.proofs.lemmas.List.{take_all}
use Rattle.std.proofs.lemmas.List.Elements.{Contains-get_or}
use Rattle.m17_replay.specs.Summary.{peer_line, peers_text}
use Rattle.m17_replay.proofs.Steps.{item_written, item_failed}
use Rattle.m17_replay.proofs.Writing.{writes_nothing, writes_same}
use Rattle.m17_replay.proofs.summary.print_peers.Goals as goal

pub loop-peer-init : goal.loop-peer-init
loop-peer-init g c = record {
  faults = refl;
  writes = λ tally are. writes_nothing tt _;
}

pub print_peer-requires : goal.print_peer-requires
print_peer-requires g c = record { named = c.requires.named _ (Contains-get_or c.args.named.now c.loop-peer.peer-index _ c.loop-peer-test.true) }

pub loop-peer-preserved : goal.loop-peer-preserved
loop-peer-preserved g c = record {
  faults = c.in-Ok.ensures.cause.no_fault ∙ c.loop-peer.invariant.faults;
  writes = λ tally are.
      item_written (λ peer. peer_line peer (tally peer)) c.args.named.now c.loop-peer.peer-index _ _ _ _ c.loop-peer-test.true (c.loop-peer.invariant.writes tally are) (c.in-Ok.ensures.writes tally are);
}

pub returns-in-Err-clause-writes : goal.returns-in-Err-clause-writes
returns-in-Err-clause-writes g c = λ tally are.
    item_failed (λ peer. peer_line peer (tally peer)) c.in-Err.failed c.args.named.now c.loop-peer.peer-index _ _ _ _ c.loop-peer-test.true (c.loop-peer.invariant.writes tally are) (c.in-Err.ensures.writes tally are)

pub returns-clause-writes : goal.returns-clause-writes
returns-clause-writes g c = λ tally are.
    writes_same _ _ _ _ _ (ap (peers_text tally) (take_all c.loop-peer.peer-index c.args.named.now (omega arith))) (c.loop-peer.invariant.writes tally are)
