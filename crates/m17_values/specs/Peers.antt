-- The order of peers.
use Rattle.std.specs.Ordering.{nat_cmp, bool_cmp, on, then_cmp}
use Rattle.std.specs.Cmp.Lexicographic.{slice_cmp}
use Rattle.std.specs.declared.cmp.Ordering.{Ordering}
use Rattle.m17_values.specs.declared.peer.Peer.{Peer}

-- By family, IPv4 first, then by address, then by port.
abbrev pub peer_cmp : Peer → Peer → Ordering
peer_cmp = then_cmp (on (λ p. p.six) bool_cmp)
    (then_cmp (on (λ p. p.ip) (slice_cmp nat_cmp)) (on (λ p. p.port) nat_cmp))
