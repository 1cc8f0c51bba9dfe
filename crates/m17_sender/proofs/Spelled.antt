-- Datagrams that spell packets, in parts.
use Rattle.std.proofs.Common.{◌≡◌, Bool, true, false, cond, List, [], ◌∷◌, ◌++◌, map, refl, ap, sym}
use Rattle.std.specs.List.{filter, AllZip}
use Rattle.m17_values.specs.declared.peer.Peer.{Peer}
use Rattle.m17_control.specs.Forms.{Spells}
use Rattle.m17_ports.specs.Mouth.{Datagram}
use Rattle.m17_sender.specs.Acts.{Saying, AreSpelled}
use Rattle.m17_sender.specs.Joined.{packets_to}
use Rattle.m17_sender.specs.Laws.{bytes_to}

pub in_turn : (said more : List Saying) (one other : List Datagram) → AreSpelled said one → AreSpelled more other → AreSpelled (said ++ more) (one ++ other)
in_turn [] more [] other h k = k
in_turn [] more (d ∷ one) other h k = absurd h
in_turn (s ∷ said) more [] other h k = absurd h
in_turn (s ∷ said) more (d ∷ one) other h k = (h.0, in_turn said more one other h.1 k)

kept_both : (x : Peer → Bool) (s : Saying) (d : Datagram) (said : List Saying) (datagrams : List Datagram) (b c : Bool) → x s.0 ≡ b → x d.0 ≡ c → b ≡ c → Spells s.1 d.1 → AllZip Spells (packets_to x said) (bytes_to x datagrams) → AllZip Spells (map (λ (s : Saying). s.1) (cond b (s ∷ filter (λ (s : Saying). x s.0) said) (filter (λ (s : Saying). x s.0) said))) (map (λ (d : Datagram). d.1) (cond c (d ∷ filter (λ (d : Datagram). x d.0) datagrams) (filter (λ (d : Datagram). x d.0) datagrams)))
kept_both x s d said datagrams true true is at same spells below = (spells, below)
kept_both x s d said datagrams true false is at same spells below = cc
kept_both x s d said datagrams false true is at same spells below = cc
kept_both x s d said datagrams false false is at same spells below = below

pub to_each : (x : Peer → Bool) (said : List Saying) (datagrams : List Datagram) → AreSpelled said datagrams → AllZip Spells (packets_to x said) (bytes_to x datagrams)
to_each x [] [] h = tt
to_each x [] (d ∷ datagrams) h = absurd h
to_each x (s ∷ said) [] h = absurd h
to_each x (s ∷ said) (d ∷ datagrams) h =
    kept_both x s d said datagrams (x s.0) (x d.0) refl refl (ap x (sym h.0.0)) h.0.1 (to_each x said datagrams h.1)
