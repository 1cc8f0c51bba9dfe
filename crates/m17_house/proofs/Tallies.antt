-- Tallies after one packet more, and of packets in another order.
use Rattle.std.proofs.Common.{◌≡◌, ℕ, ◌+◌, ◌-◌, ◌^◌, Bool, true, false, cond, List, [], ◌∷◌, ◌++◌, codes, map, min, nat_eq, is_some, IfSome, Option, None, Some, refl, ap, sym, subst, ◌∙◌, arith, count_by, append_assoc}
use Rattle.std.specs.Option.{option_to_list}
use Rattle.std.specs.List.{starts_with, filter_map}
use Rattle.std.proofs.lemmas.List.{append-nil}
use Rattle.std.proofs.lemmas.Bool.{true≢false}
use Rattle.m17_lists.proofs.Sums.{count_of_both, count_of_one}
use Rattle.m17_lists.proofs.Tests.{mapped_option_is_of_one}
use Rattle.m17_values.specs.declared.peer.Peer.{Peer}
use Rattle.m17_control.specs.declared.packet.Packet.{Packet}
use Rattle.m17_control.specs.Forms.{Spells, SpellsControl}
use Rattle.m17_control.specs.Spelled.{packet_said}
use Rattle.m17_control.specs.declared.item.Item.{Item}
use Rattle.m17_control.specs.declared.item.Direct.{Direct}
use Rattle.m17_control.specs.declared.packet.Control.{Control}
use Rattle.m17_control.specs.declared.packet.Packet.TheVariants as packets
use Rattle.m17_directory.specs.declared.dispatch.Dispatch.TheVariants.{ToDoor}
use Rattle.m17_directory.specs.Routed.{reply_for}
use Rattle.m17_stream.specs.declared.packet.StreamPacket.{StreamPacket}
use Rattle.m17_ports.specs.declared.tally.Tally.{Tally}
use Rattle.m17_ports.specs.Tallies.{counted, tally_then, no_tally, IsTallied}
use Rattle.m17_port_memory.specs.Kept.{TalliesKept}
use Rattle.m17_port_memory.specs.Peers.{tally_at}
use Rattle.m17_directory.specs.Entries.{is_peer}
use Rattle.m17_house.specs.Replay.{is_ackn, is_nack, is_ping, is_pong, is_disc, is_stream, count_of, tally_of, packet_to}
use Rattle.m17_house.specs.Tallied.{AreTalliesOf, IsSameMouth, HasSaidMore}
use Rattle.m17_house.proofs.Magics.{BeginsAs, begins_as}
use Rattle.m17_house.proofs.Peers.{from_is_peer, not_is_peer}

counted_by : (b : Bool) (c most : ℕ) → cond b (min (min c most + 1) most) (min c most) ≡ min (c + cond b 1 0) most
counted_by true c most = omega arith
counted_by false c most = omega arith

counted_more : (kind : Packet → Bool) (magic : List ℕ) (said : List Packet) (p : Packet) (bytes : List ℕ) → starts_with nat_eq bytes magic ≡ kind p → counted (count_of kind said) magic bytes ≡ count_of kind (said ++ p ∷ [])
counted_more kind magic said p bytes e =
    ap (λ b. cond b (min (min (count_by kind said) (2 ^ 64 - 1) + 1) (2 ^ 64 - 1)) (min (count_by kind said) (2 ^ 64 - 1))) e
    ∙ counted_by (kind p) (count_by kind said) (2 ^ 64 - 1)
    ∙ ap (λ n. min n (2 ^ 64 - 1)) (ap (λ n. count_by kind said + n) (sym (count_of_one kind p)) ∙ sym (count_of_both kind said (p ∷ [])))

-- a tally by its numbers
made : ℕ → ℕ → ℕ → ℕ → ℕ → ℕ → Tally
made a n i o d f = record { ackn = a; nack = n; ping = i; pong = o; disc = d; frame = f }

same_numbers : {a n i o d f a' n' i' o' d' f' : ℕ} → a ≡ a' → n ≡ n' → i ≡ i' → o ≡ o' → d ≡ d' → f ≡ f' → made a n i o d f ≡ made a' n' i' o' d' f'
same_numbers {a} {n} {i} {o} {d} {f} {a'} {n'} {i'} {o'} {d'} {f'} ea en ei eo ed ef =
    ap (λ x. made x n i o d f) ea ∙ ap (λ x. made a' x i o d f) en ∙ ap (λ x. made a' n' x o d f) ei
    ∙ ap (λ x. made a' n' i' x d f) eo ∙ ap (λ x. made a' n' i' o' x f) ed ∙ ap (λ x. made a' n' i' o' d' x) ef

pub same_tally : (s t : Tally) → s.ackn ≡ t.ackn → s.nack ≡ t.nack → s.ping ≡ t.ping → s.pong ≡ t.pong → s.disc ≡ t.disc → s.frame ≡ t.frame → s ≡ t
unfolding made
same_tally s t ea en ei eo ed ef = same_numbers ea en ei eo ed ef

pub tally_begun : (said : List Packet) (p : Packet) (bytes : List ℕ) → BeginsAs p bytes → tally_then (tally_of said) bytes ≡ tally_of (said ++ p ∷ [])
tally_begun said p bytes b =
    same_tally (tally_then (tally_of said) bytes) (tally_of (said ++ p ∷ []))
    (counted_more is_ackn (codes "ACKN") said p bytes b.ackn) (counted_more is_nack (codes "NACK") said p bytes b.nack)
    (counted_more is_ping (codes "PING") said p bytes b.ping) (counted_more is_pong (codes "PONG") said p bytes b.pong)
    (counted_more is_disc (codes "DISC") said p bytes b.disc) (counted_more is_stream (codes "M17 ") said p bytes b.frame)

pub tally_more : (said : List Packet) (p : Packet) (bytes : List ℕ) → Spells p bytes → tally_then (tally_of said) bytes ≡ tally_of (said ++ p ∷ [])
tally_more said p bytes s = tally_begun said p bytes (begins_as p bytes s)

-- lists with as many packets of each kind have one tally
pub tally_of_same : (a b : List Packet) → ((kind : Packet → Bool) → count_by kind a ≡ count_by kind b) → tally_of a ≡ tally_of b
tally_of_same a b same =
    let e : (kind : Packet → Bool) → count_of kind a ≡ count_of kind b = λ kind. ap (λ n. min n (2 ^ 64 - 1)) (same kind) in
    same_tally (tally_of a) (tally_of b) (e is_ackn) (e is_nack) (e is_ping) (e is_pong) (e is_disc) (e is_stream)

pub same_count_tallies : (said more : Peer → List Packet) (mouth : TalliesKept) → ((x : Peer) (kind : Packet → Bool) → count_by kind (said x) ≡ count_by kind (more x)) → AreTalliesOf said mouth → AreTalliesOf more mouth
same_count_tallies said more mouth same are x tally is = are x tally is ∙ tally_of_same (said x) (more x) (same x)

-- the mouth that said nothing
pub none_said : (mouth : TalliesKept) → ((x : Peer) (tally : Tally) → tally_at mouth.entries x ≡ Some tally → tally ≡ no_tally) → AreTalliesOf (λ x. []) mouth
none_said mouth empty x tally is = empty x tally is ∙ same_tally no_tally (tally_of []) refl refl refl refl refl refl

-- The packet p was said to the peer to: x hears it where it is that peer.
said_to_peer : (said : Peer → List Packet) (to : Peer) (p : Packet) (bytes : List ℕ) (old new : TalliesKept) → BeginsAs p bytes → IsTallied (tally_at old.entries) to bytes (tally_at new.entries) → AreTalliesOf said old →
    (x : Peer) (tally : Tally) (b : Bool) → is_peer x to ≡ b → tally_at new.entries x ≡ Some tally → tally ≡ tally_of (said x ++ option_to_list (cond b (Some p) None))
said_to_peer said to p bytes old new s t are x tally true e is =
    let same : x ≡ to = from_is_peer x to e in
    let before : (a : Tally) × (tally_at old.entries to ≡ Some a) × (tally_then a bytes ≡ tally) =
    mapped_option_is_of_one (λ a. tally_then a bytes) (tally_at old.entries to) tally (sym t.its_peer ∙ ap (tally_at new.entries) (sym same) ∙ is) in
    sym before.2 ∙ ap (λ a. tally_then a bytes) (are to before.0 before.1) ∙ tally_begun (said to) p bytes s
    ∙ ap (λ y. tally_of (said y ++ p ∷ [])) (sym same)
said_to_peer said to p bytes old new s t are x tally false e is =
    are x tally (sym (t.others x (not_is_peer x to e)) ∙ is) ∙ ap tally_of (sym (append-nil (said x)))

pub say_one : (to : Peer) (p : Packet) (bytes : List ℕ) (old new : TalliesKept) → BeginsAs p bytes → IsTallied (tally_at old.entries) to bytes (tally_at new.entries) → IsSameMouth old new →
    HasSaidMore (λ x. option_to_list (cond (is_peer x to) (Some p) None)) old new
say_one to p bytes old new s t same = record {
  same = same;
  tallies = λ said are x tally is. said_to_peer said to p bytes old new s t are x tally (is_peer x to) refl is;
}

-- nothing was said
pub say_none : (more : Peer → List Packet) (mouth : TalliesKept) → ((x : Peer) → more x ≡ []) → HasSaidMore more mouth mouth
say_none more mouth none = record {
  same = record { peers = refl; number = refl };
  tallies = λ said are x tally is. are x tally is ∙ ap tally_of (sym (ap (λ xs. said x ++ xs) (none x) ∙ append-nil (said x)));
}

-- What is said to a peer without a tally changes none.
unnamed : (said : Peer → List Packet) (to : Peer) (o : Option Packet) (mouth : TalliesKept) → tally_at mouth.entries to ≡ None → AreTalliesOf said mouth →
    (x : Peer) (tally : Tally) (b : Bool) → is_peer x to ≡ b → tally_at mouth.entries x ≡ Some tally → tally ≡ tally_of (said x ++ option_to_list (cond b o None))
unnamed said to o mouth none are x tally true e is =
    absurd (let both : None ≡ Some tally = sym none ∙ ap (tally_at mouth.entries) (sym (from_is_peer x to e)) ∙ is in cc)
unnamed said to o mouth none are x tally false e is = are x tally is ∙ ap tally_of (sym (append-nil (said x)))

pub no_tally_there : (o : Option Tally) → is_some o ≡ false → o ≡ None
no_tally_there None e = refl
no_tally_there (Some tally) e = absurd (true≢false e)

pub say_unnamed : (item : Item) (name : ℕ) (mouth : TalliesKept) → tally_at mouth.entries item.peer ≡ None →
    HasSaidMore (λ x. option_to_list (packet_to x name item)) mouth mouth
say_unnamed item name mouth none = record {
  same = record { peers = refl; number = refl };
  tallies = λ said are x tally is. unnamed said item.peer (packet_said item.body name) mouth none are x tally (is_peer x item.peer) refl is;
}

-- A mouth that has a tally of nobody keeps nothing of what is said.
nobodys : (entries : List (Peer × Tally)) → entries ≡ [] → (x : Peer) (tally : Tally) → tally_at entries x ≡ Some tally → (t : Tally) → tally ≡ t
nobodys [] e x tally is t = absurd (let none : None ≡ Some tally = is in cc)
nobodys (entry ∷ entries) e x tally is t = absurd (let some : (entry ∷ entries) ≡ [] = e in cc)

pub say_to_nobody : (items : List Item) (name : ℕ) (mouth : TalliesKept) → mouth.entries ≡ [] →
    HasSaidMore (λ x. filter_map (packet_to x name) items) mouth mouth
say_to_nobody items name mouth empty = record {
  same = record { peers = refl; number = refl };
  tallies = λ said are x tally is. nobodys mouth.entries empty x tally is (tally_of (said x ++ filter_map (packet_to x name) items));
}

-- one after another
pub say_then : (first second all : Peer → List Packet) (old mid new : TalliesKept) → ((x : Peer) → first x ++ second x ≡ all x) → HasSaidMore first old mid → HasSaidMore second mid new → HasSaidMore all old new
say_then first second all old mid new join a b = record {
  same = record { peers = b.same.peers ∙ a.same.peers; number = b.same.number ∙ a.same.number };
  tallies = λ said are x tally is.
      b.tallies (λ y. said y ++ first y) (a.tallies said are) x tally is
      ∙ ap tally_of (append_assoc (said x) (first x) (second x) ∙ ap (λ xs. said x ++ xs) (join x));
}

-- the same said in other words
pub more_same : (first second : Peer → List Packet) (old new : TalliesKept) → ((x : Peer) → first x ≡ second x) → HasSaidMore first old new → HasSaidMore second old new
more_same first second old new same told = record {
  same = told.same;
  tallies = λ said are x tally is. told.tallies said are x tally is ∙ ap (λ xs. tally_of (said x ++ xs)) (same x);
}

-- an item that spells something was said
spelled_by : (to : Peer) (bytes : List ℕ) (old new : TalliesKept) (o : Option Packet) → true ≡ is_some o → IfSome o (λ p. Spells p bytes) → IsTallied (tally_at old.entries) to bytes (tally_at new.entries) → IsSameMouth old new →
    HasSaidMore (λ x. option_to_list (cond (is_peer x to) o None)) old new
spelled_by to bytes old new None some s t same = absurd (true≢false some)
spelled_by to bytes old new (Some p) some s t same = say_one to p bytes old new (begins_as p bytes s) t same

pub say_spelled : (item : Item) (name : ℕ) (bytes : List ℕ) (old new : TalliesKept) → true ≡ is_some (packet_said item.body name) → IfSome (packet_said item.body name) (λ p. Spells p bytes) → IsTallied (tally_at old.entries) item.peer bytes (tally_at new.entries) → IsSameMouth old new →
    HasSaidMore (λ x. option_to_list (packet_to x name item)) old new
say_spelled item name bytes old new some s t same = spelled_by item.peer bytes old new (packet_said item.body name) some s t same

-- an item that is a voice frame was said: its first four bytes tell the tally
frame_begins : (p : StreamPacket) → BeginsAs (packets.Stream p) (codes "M17 ")
frame_begins p = record { ackn = refl; nack = refl; ping = refl; pong = refl; disc = refl; frame = refl }

pub say_framed : (item : Item) (name : ℕ) (p : StreamPacket) (old new : TalliesKept) → packet_said item.body name ≡ Some (packets.Stream p) → IsTallied (tally_at old.entries) item.peer (codes "M17 ") (tally_at new.entries) → IsSameMouth old new →
    HasSaidMore (λ x. option_to_list (packet_to x name item)) old new
say_framed item name p old new is t same =
    subst (λ (o : Option Packet). HasSaidMore (λ x. option_to_list (cond (is_peer x item.peer) o None)) old new) (sym is)
    (say_one item.peer (packets.Stream p) (codes "M17 ") old new (frame_begins p) t same)

-- a direct reply was said
reply_by : (b : Bool) (control : Control) → option_to_list (cond b (Some (packets.Control control)) None) ≡ map packets.Control (option_to_list (cond b (Some control) None))
reply_by true control = refl
reply_by false control = refl

pub say_reply : (direct : Direct) (bytes : List ℕ) (old new : TalliesKept) → SpellsControl direct.control bytes → IsTallied (tally_at old.entries) direct.peer bytes (tally_at new.entries) → IsSameMouth old new →
    HasSaidMore (λ x. map packets.Control (option_to_list (reply_for x (ToDoor direct)))) old new
say_reply direct bytes old new s t same =
    more_same (λ x. option_to_list (cond (is_peer x direct.peer) (Some (packets.Control direct.control)) None)) (λ x. map packets.Control (option_to_list (reply_for x (ToDoor direct)))) old new
    (λ x. reply_by (is_peer x direct.peer) direct.control)
    (say_one direct.peer (packets.Control direct.control) bytes old new (begins_as (packets.Control direct.control) bytes s) t same)
