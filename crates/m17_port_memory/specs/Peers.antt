-- Tallies by peer, looked up in the order of peers.
use Rattle.std.specs.Prelude.{List, Option}
use Rattle.std.specs.Map.{lookup, keys_of}
use Rattle.std.specs.BTreeMap.{is_at}
use Rattle.m17_values.specs.Peers.{peer_cmp}
use Rattle.m17_values.specs.declared.peer.Peer.{Peer}
use Rattle.m17_ports.specs.declared.tally.Tally.{Tally}

-- the tally of a peer, where there is one for it
abbrev pub tally_at : List (Peer × Tally) → Peer → Option Tally
tally_at entries peer = lookup (is_at (peer_cmp peer)) entries

-- the peers that have a tally
abbrev pub named_in : List (Peer × Tally) → List Peer
named_in entries = keys_of entries
