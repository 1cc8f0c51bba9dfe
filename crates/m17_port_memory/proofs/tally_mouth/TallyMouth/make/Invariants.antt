use Rattle.std.proofs.Common.{◌≡◌, ◌↔◌, Contains, Some, IsSome, take}
use Rattle.m17_ports.specs.Tallies.{no_tally}
use Rattle.m17_ports.specs.declared.tally.Tally.{Tally}
use Rattle.m17_values.specs.declared.peer.Peer.{Peer}
use Rattle.m17_port_memory.specs.Peers.{tally_at}
use Rattle.m17_port_memory.proofs.tally_mouth.TallyMouth.make.Given as goal

abbrev pub invariant-loop-peer : goal.invariant-loop-peer
invariant-loop-peer l =
    ((peer : Peer) → IsSome (tally_at l.tallies.entries peer) ↔ Contains (take l.peer-index l.peers) peer)
    × ((peer : Peer) (tally : Tally) → tally_at l.tallies.entries peer ≡ Some tally → tally ≡ no_tally)
