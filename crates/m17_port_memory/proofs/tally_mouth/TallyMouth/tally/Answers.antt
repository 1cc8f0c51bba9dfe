use Rattle.std.proofs.Common.{rules, ◌≡◌}
use Rattle.m17_port_memory.specs.Peers.{tally_at}
use Rattle.m17_port_memory.specs.PeerOrder.{tally_at-named}
use Rattle.m17_port_memory.proofs.tally_mouth.TallyMouth.tally.Goals as goal

pub returns-clause-named : goal.returns-clause-named
returns-clause-named c =
    let e : c.copied.result ≡ tally_at c.args.self.now.entries c.args.peer.now = search rules in
    rw e (tally_at-named c.args.self.now.entries c.args.peer.now)
