use Rattle.std.proofs.Common.{[], take, get_or, false}
use Rattle.std.proofs.lemmas.List.{take_more}
use Rattle.m17_values.specs.declared.peer.Peer.{Peer}
use Rattle.m17_ports.specs.Tallies.{no_tally}
use Rattle.m17_port_memory.specs.Peers.{tally_at}
use Rattle.m17_port_memory.proofs.TallyLemmas.{named-put, empty-put}
use Rattle.m17_port_memory.proofs.tally_mouth.TallyMouth.make.Goals as goal

pub loop-peer-preserved : goal.loop-peer-preserved
loop-peer-preserved c =
    let none : Peer = record { six = false; ip = []; port = 0 } in
    let key : Peer = get_or c.args.peers.now c.loop-peer.peer-index none in
    let old = tally_at c.loop-peer.tallies.entries in
    let new = tally_at c.insert.new.self.entries in
    let put = c.in_ok-insert.ensures.updates.0 in (
      λ peer. rw (take_more c.args.peers.now c.loop-peer.peer-index none c.loop-peer-test.true)
          (named-put old key no_tally new (take c.loop-peer.peer-index c.args.peers.now) put
          c.loop-peer.invariant.0 peer),
      empty-put old new key put c.loop-peer.invariant.1,
    )
