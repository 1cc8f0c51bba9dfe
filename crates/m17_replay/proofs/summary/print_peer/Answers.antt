use Rattle.std.proofs.Common.{Some, sym, ap, ◌≡◌, ◌∙◌}
use Rattle.m17_port_memory.specs.Peers.{tally_at}
use Rattle.m17_replay.specs.Summary.{peer_line}
use Rattle.m17_replay.proofs.Writing.{writes_same}
use Rattle.m17_replay.proofs.summary.print_peer.Goals as goal

pub returns-clause-writes : goal.returns-clause-writes
returns-clause-writes g c = λ tally are.
    let found : tally_at c.args.mouth.now.entries c.args.peer.now ≡ Some c.unwrap-tally.result =
    sym c.tally.ensures.value ∙ c.unwrap-tally.ensures in
    writes_same _ _ _ _ _
    (c.make_peer_line.ensures ∙ ap (peer_line c.args.peer.now) (are c.args.peer.now c.unwrap-tally.result found))
    c.write_line.ensures.writes
