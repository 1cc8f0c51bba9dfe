use Rattle.std.proofs.Common.{◌≡◌, List}
use Rattle.m17_directory.specs.Entries.{Entry, peers_named, SaysEach}
use Rattle.m17_replay.proofs.peers.name_peers.Given as goal

-- the peers of so many that were heard are named
abbrev pub invariant-loop-one : goal.invariant-loop-one
invariant-loop-one l = (entries : List Entry) → SaysEach l.fn.heard entries → l.named.keys ≡ peers_named entries l.one-index
