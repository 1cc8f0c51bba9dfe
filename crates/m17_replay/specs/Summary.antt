-- The summary of what a link heard: how many entries came to what, and how much was said to each peer.
use Rattle.std.specs.Prelude.{◌==◌, ℕ, Bool, false, List, [], ◌∷◌, ◌++◌, count_by, codes, decimal, Option, None, Some}
use Rattle.std.specs.List.{flat_map}
use Rattle.m17_values.specs.declared.peer.Peer.{Peer}
use Rattle.m17_floor.specs.declared.verdict.Verdict.{Verdict}
use Rattle.m17_peer.specs.Text.{text_of}
use Rattle.m17_ports.specs.declared.tally.Tally.{Tally}
use Rattle.m17_directory.specs.declared.verdict.Act.{Act}
use Rattle.m17_directory.specs.declared.verdict.Act.TheVariants as act
use Rattle.m17_directory.specs.declared.verdict.LinkVerdict.{LinkVerdict}
use Rattle.m17_directory.specs.declared.verdict.LinkVerdict.TheVariants as link
pub use Rattle.m17_house.specs.Replay.{Outcome}
use Rattle.m17_print.specs.declared.kind.Kind.{Kind}
use Rattle.m17_print.specs.declared.kind.Kind.TheVariants.{Join, Again, Leave, Pong, Alive, Refused, NotConnected, NotServed, Full, Stray, Quiet, Fault}
use Rattle.m17_print.specs.Kinds.{kinds, kind_word, kind_place, verdict_kind}

-- the kind of an entry that was routed to a module, by the floor rule's verdict on its packet
abbrev pub routed_kind : Act → Option Verdict → Option Kind
routed_kind act.Join v = Some Join
routed_kind act.Again v = Some Again
routed_kind act.Leave v = Some Leave
routed_kind act.Pong v = Some Pong
routed_kind act.Packet None = None
routed_kind act.Packet (Some v) = Some (verdict_kind v)

-- What kind of entry it is, by what it came to; the entry that ends a link by its faults is a fault as the others.
abbrev pub kind_of : LinkVerdict → Option Verdict → Option Kind
kind_of (link.Routed letter what) v = routed_kind what v
kind_of (link.Alive letter) v = Some Alive
kind_of (link.Refused refusal) v = Some Refused
kind_of link.NotConnected v = Some NotConnected
kind_of (link.NotServed letter) v = Some NotServed
kind_of link.Full v = Some Full
kind_of link.Stray v = Some Stray
kind_of link.Timed v = Some Quiet
kind_of link.Faulted v = Some Fault
kind_of link.Ended v = Some Fault
kind_of link.Asks v = None

abbrev pub is_kind_at : ℕ → Option Kind → Bool
is_kind_at place None = false
is_kind_at place (Some kind) = kind_place kind == place

-- how many of the entries are of a kind
abbrev pub count_at : ℕ → List Outcome → ℕ
count_at place outcomes = count_by (λ o. is_kind_at place (kind_of o.0 o.1)) outcomes

-- A word, a space and its number.
unfoldable pub numbered : List ℕ → ℕ → List ℕ
numbered word n = word ++ codes " " ++ decimal n

abbrev pub count_line : List ℕ → ℕ → List ℕ
count_line word n = numbered word n ++ 10 ∷ []

-- How many datagrams of each kind.
abbrev pub tally_text : Tally → List ℕ
tally_text t = numbered (codes " ackn") t.ackn ++ numbered (codes " nack") t.nack
    ++ numbered (codes " ping") t.ping ++ numbered (codes " pong") t.pong
    ++ numbered (codes " disc") t.disc ++ numbered (codes " frame") t.frame

-- A peer, and how many datagrams of each kind were said to it.
abbrev pub peer_line : Peer → Tally → List ℕ
peer_line peer t = codes "peer " ++ text_of peer ++ tally_text t ++ 10 ∷ []

-- The lines of the counts: of all entries, and of each kind.
abbrev pub counts_text : ℕ → List Outcome → List ℕ
counts_text entries outcomes = count_line (codes "entries") entries
    ++ flat_map (λ kind. count_line (kind_word kind) (count_at (kind_place kind) outcomes)) kinds

-- The lines of the peers.
abbrev pub peers_text : (Peer → Tally) → List Peer → List ℕ
peers_text tally peers = flat_map (λ peer. peer_line peer (tally peer)) peers
