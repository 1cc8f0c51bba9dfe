-- How many datagrams of each kind were said to a peer. A kind is told by the first four bytes. M17 Protocol
-- Specification, IP networking; the control packets' forms are this profile's.
use Rattle.std.specs.Prelude.{◌≡◌, ◌≢◌, ℕ, ◌+◌, ◌-◌, ◌^◌, List, codes, min, nat_eq, if◌then◌else◌, Option}
use Rattle.std.specs.Option.{option_map}
use Rattle.std.specs.List.{starts_with}
use Rattle.m17_values.specs.declared.peer.Peer.{Peer}
use Rattle.m17_ports.specs.declared.tally.Tally.{Tally}

-- The number of a kind after one more datagram: one more where the datagram begins with the kind's magic. A number
-- that has come to 2^64 - 1 stays there.
abbrev pub counted : ℕ → List ℕ → List ℕ → ℕ
counted n magic bytes =
    if starts_with nat_eq bytes magic then min (n + 1) (2 ^ 64 - 1) else n

-- The tally of a peer after one more datagram to it.
abbrev pub tally_then : Tally → List ℕ → Tally
tally_then t bytes = record {
  ackn = counted t.ackn (codes "ACKN") bytes;
  nack = counted t.nack (codes "NACK") bytes;
  ping = counted t.ping (codes "PING") bytes;
  pong = counted t.pong (codes "PONG") bytes;
  disc = counted t.disc (codes "DISC") bytes;
  frame = counted t.frame (codes "M17 ") bytes;
}

-- The tally of a peer to which nothing was said.
abbrev pub no_tally : Tally
no_tally = record { ackn = 0; nack = 0; ping = 0; pong = 0; disc = 0; frame = 0 }

-- One more datagram is in the tallies: in its peer's, where they have one for it, and in no other's.
pub record IsTallied (before : Peer → Option Tally) (to : Peer) (bytes : List ℕ)
    (after : Peer → Option Tally) : Type 0 where
  pub its_peer : after to ≡ option_map (λ t. tally_then t bytes) (before to)
  pub others : (peer : Peer) → peer ≢ to → after peer ≡ before peer
