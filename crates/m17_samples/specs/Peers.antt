-- The peers of the samples.
use Rattle.std.specs.Prelude.{ℕ, false, ◌∷◌, replicate}
use Rattle.m17_values.specs.declared.peer.Peer.{Peer}

-- the peer 10.0.0.`host`, port 17000
abbrev pub sample_peer : ℕ → Peer
sample_peer host = record {
  six = false;
  ip = 10 ∷ 0 ∷ 0 ∷ host ∷ replicate 12 0;
  port = 17000;
}
