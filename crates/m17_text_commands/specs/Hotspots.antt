-- The twelve hotspots of an evening, counted from 0.
use Rattle.std.specs.Prelude.{ℕ, false, ◌+◌, ◌*◌, ◌%◌, [], ◌∷◌}
use Rattle.m17_values.specs.declared.peer.Peer.{Peer}

-- the peer of hotspot i: 10.0.0.(i+1), port 17000
abbrev pub peer_of : ℕ → Peer
peer_of i = record {
  six = false;
  ip = 10 ∷ 0 ∷ 0 ∷ (i + 1) ∷ 0 ∷ 0 ∷ 0 ∷ 0 ∷ 0 ∷ 0 ∷ 0 ∷ 0 ∷ 0 ∷ 0 ∷ 0 ∷ 0 ∷ [];
  port = 17000;
}

-- the address of its callsign: HOT, and the letter number i from A
abbrev pub address_of : ℕ → ℕ
address_of i = 96608 + 64000 * i

-- the letter of its module: A, B and C in turn
abbrev pub module_of : ℕ → ℕ
module_of i = 65 + i % 3
