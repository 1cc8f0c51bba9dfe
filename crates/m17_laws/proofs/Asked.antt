-- Where a link routed a Join of a peer, it heard the peer ask to join, at the entry that the Join names.
use Rattle.std.proofs.Common.{◌≡◌, ℕ, zero, suc, ◌+◌, Bool, true, false, cond, List, [], ◌∷◌, length, refl, sym, ap, ◌∙◌, subst, arith, inl, inr, Option, None, Some, Contains}
use Rattle.std.specs.Prelude.{◌==◌, slice_get}
use Rattle.std.specs.List.{flat_map, range_with_len}
use Rattle.std.proofs.lemmas.List.{length-append}
use Rattle.std.proofs.lemmas.Option.{none-some}
use Rattle.m17_lists.proofs.Contents.{nothing_is_in_none, is_the_only_one, is_given_by_one, what_passes_is_in}
use Rattle.m17_values.specs.declared.heard.Heard.{Heard}
use Rattle.m17_values.specs.declared.heard.Heard.TheVariants as heard
use Rattle.m17_values.specs.declared.member.Member.{Member}
use Rattle.m17_values.specs.declared.peer.Peer.{Peer}
use Rattle.m17_control.specs.Forms.{Spells, SpellsControl}
use Rattle.m17_control.specs.declared.event.Body.{Body}
use Rattle.m17_control.specs.declared.event.Body.TheVariants.{Join}
use Rattle.m17_control.specs.declared.event.Event.{Event}
use Rattle.m17_control.specs.declared.packet.Control.{Control}
use Rattle.m17_control.specs.declared.packet.Control.TheVariants.{Conn, Lstn, Ackn, Nack, Ping, Pong, Disc}
use Rattle.m17_control.specs.declared.packet.Packet.{Packet}
use Rattle.m17_control.specs.declared.packet.Packet.TheVariants as packets
use Rattle.m17_directory.specs.declared.known.Request.{Request}
use Rattle.m17_directory.specs.Entries.{Claim, Entry, Notice, Says, SaysEach, Setup, claim_at, notice_at}
use Rattle.m17_directory.specs.Known.{request_in, request_of}
use Rattle.m17_directory.specs.Laws.{JoinsAreTheClaims, is_join, join_event, joins_at, joins_by}
use Rattle.m17_directory.specs.Outcome.{Here}
use Rattle.m17_directory.specs.Routed.{asked_before, asks_at, here_of, past_at, routed}
use Rattle.m17_client.specs.Way.{IsJoinRequest}

-- The link heard the peer ask to join, at this entry.
pub record HeardAsk (entries : List Heard) (x : Peer) (n : ℕ) : Type 0 where
  pub at : ℕ
  pub bytes : List ℕ
  pub packet : Control
  pub asks : IsJoinRequest packet
  pub spelled : SpellsControl packet bytes
  pub there : slice_get entries n ≡ Some (heard.Datagram x at bytes)

-- an entry that says a packet is of a datagram that spells it
abbrev HeardPacket : List Heard → ℕ → Peer → ℕ → Packet → Type 0
HeardPacket entries n from at p =
    (bytes : List ℕ) × Spells p bytes × (slice_get entries n ≡ Some (heard.Datagram from at bytes))

one_says : (h : Heard) (rest : List Heard) (notice : Notice) (from : Peer) (at : ℕ) (p : Packet) → Says h notice
    → notice ≡ Notice.Sent from at p → HeardPacket (h ∷ rest) 0 from at p
one_says (heard.Datagram x when bytes) rest notice from at p (inl (q, spelled, is)) e =
    let both : Notice.Sent x when q ≡ Notice.Sent from at p = sym is ∙ e in
    let same_peer : x ≡ from = cc in let same_at : when ≡ at = cc in let same_packet : q ≡ p = cc in (
      bytes,
      subst (λ (r : Packet). Spells r bytes) same_packet spelled,
      ap (λ (y : Peer). Some (heard.Datagram y when bytes)) same_peer
          ∙ ap (λ (t : ℕ). Some (heard.Datagram from t bytes)) same_at,
    )
one_says (heard.Datagram x when bytes) rest notice from at p (inr (refusal, refused, is)) e = absurd cc
one_says (heard.Quiet when) rest notice from at p says e = absurd cc
one_says heard.Fault rest notice from at p says e = absurd cc
one_says heard.End rest notice from at p says e = absurd cc

says_there : (hs : List Heard) (entries : List Entry) (n : ℕ) (from : Peer) (at : ℕ) (p : Packet)
    → SaysEach hs entries → notice_at entries n ≡ Notice.Sent from at p → HeardPacket hs n from at p
says_there [] [] n from at p says e = absurd cc
says_there [] (entry ∷ entries) n from at p says e = absurd says
says_there (h ∷ hs) [] n from at p says e = absurd says
says_there (h ∷ hs) (entry ∷ entries) zero from at p says e = one_says h hs entry.notice from at p says.0 e
says_there (h ∷ hs) (entry ∷ entries) (suc n) from at p says e = says_there hs entries n from at p says.1 e

-- a packet that asks for something is a CONN or a LSTN
abbrev Asking : Packet → Type 0
Asking p = (c : Control) × (p ≡ packets.Control c) × IsJoinRequest c

asking : (p : Packet) (request : Request) → request_of p ≡ Some request → Asking p
asking (packets.Control (Conn from letter)) request e = (Conn from letter, refl, tt)
asking (packets.Control (Lstn from letter)) request e = (Lstn from letter, refl, tt)
asking (packets.Control Ackn) request e = absurd (none-some request e)
asking (packets.Control Nack) request e = absurd (none-some request e)
asking (packets.Control (Ping from)) request e = absurd (none-some request e)
asking (packets.Control (Pong from)) request e = absurd (none-some request e)
asking (packets.Control (Disc from)) request e = absurd (none-some request e)
asking (packets.Stream p) request e = absurd (none-some request e)

-- the body is a Join of the peer
abbrev pub IsJoinOf : Peer → Body → Type 0
IsJoinOf x body =
    (k : Member) × (callsign : ℕ) × (listens : Bool) × (after : ℕ) × (body ≡ Join k x callsign listens after)

is_a_join : (x : Peer) (body : Body) → IsJoinOf x body → is_join body ≡ true
is_a_join x body (k, callsign, listens, after, is) = ap is_join is

one_peer : (x y : Peer) (body : Body) → IsJoinOf x body → IsJoinOf y body → y ≡ x
one_peer x y body (k, callsign, listens, after, is) (l, other, speaks, later, too) =
    let both : Join l y other speaks later ≡ Join k x callsign listens after = sym too ∙ is in
    let same : y ≡ x = cc in same

-- an entry that brings in a peer by a Join says its request
record CameBy (n : ℕ) (notice : Notice) (event : Event) : Type 0 where
  from : Peer
  at : ℕ
  p : Packet
  sent : notice ≡ Notice.Sent from at p
  ask : Asking p
  index : event.tag.index ≡ n
  brings : IsJoinOf from event.body

where_true : {A : Type 0} → (b : Bool) (xs : List A) (x : A) → Contains (cond b xs []) x → Contains xs x
where_true true xs x h = h
where_true false xs x h = absurd (nothing_is_in_none x h)

by_notice : (here : Here) (letter : ℕ) (notice : Notice) (request : Option Request) (claim : Option Claim)
    (event : Event) → request ≡ request_in notice → Contains (joins_by here letter notice request claim) event
    → CameBy here.index notice event
by_notice here letter (Notice.Sent from at p) (Some request) (Some claim) event is h =
    let same : join_event here from request claim ≡ event =
    is_the_only_one (join_event here from request claim) event
    (where_true (request.letter == letter) (join_event here from request claim ∷ []) event h) in
    record {
      from = from;
      at = at;
      p = p;
      sent = refl;
      ask = asking p request (sym is);
      index = sym (ap (λ (e : Event). e.tag.index) same);
      brings =
          (claim.member, request.callsign, request.listen, claim.after, sym (ap (λ (e : Event). e.body) same));
    }
by_notice here letter (Notice.Sent from at p) (Some request) None event is h = absurd (nothing_is_in_none event h)
by_notice here letter (Notice.Sent from at p) None claim event is h = absurd (nothing_is_in_none event h)
by_notice here letter (Notice.Garbled from at refusal) request claim event is h = absurd (nothing_is_in_none event h)
by_notice here letter (Notice.Quiet at) request claim event is h = absurd (nothing_is_in_none event h)
by_notice here letter Notice.Fault request claim event is h = absurd (nothing_is_in_none event h)
by_notice here letter Notice.End request claim event is h = absurd (nothing_is_in_none event h)

-- what is looked back on at a position has as many entries as that
asked_length : (setup : Setup) (entries : List Entry) (n : ℕ) → length (asked_before setup entries n) ≡ n
unfolding asked_before
asked_length setup entries zero = refl
asked_length setup entries (suc n) =
    let more : length (asked_before setup entries (suc n)) ≡ length (asked_before setup entries n) + 1 =
    length-append (asked_before setup entries n) _ in
    let before = asked_length setup entries n in omega arith

at_entry : (setup : Setup) (entries : List Entry) (letter n : ℕ) (event : Event)
    → Contains (joins_at setup entries letter n) event → CameBy n (notice_at entries n) event
unfolding joins_at
at_entry setup entries letter n event h =
    subst (λ (at : ℕ). CameBy at (notice_at entries n) event) (asked_length setup entries n)
    (by_notice (here_of (past_at setup entries n)) letter (notice_at entries n) (request_in (notice_at entries n))
    (claim_at entries n) event refl
    (where_true (asks_at (past_at setup entries n))
    (joins_by (here_of (past_at setup entries n)) letter (notice_at entries n) (request_in (notice_at entries n))
    (claim_at entries n)) event h))

heard_at : (hs : List Heard) (entries : List Entry) (n : ℕ) (x : Peer) (event : Event) → SaysEach hs entries
    → IsJoinOf x event.body → CameBy n (notice_at entries n) event → HeardAsk hs x n
heard_at hs entries n x event says joins came =
    let same : came.from ≡ x = one_peer x came.from event.body joins came.brings in
    let (bytes, spelled, there) = says_there hs entries n came.from came.at came.p says came.sent in
    let (c, is, asks) = came.ask in
    record {
      at = came.at;
      bytes = bytes;
      packet = c;
      asks = asks;
      spelled = subst (λ (q : Packet). Spells q bytes) is spelled;
      there = there ∙ ap (λ (y : Peer). Some (heard.Datagram y came.at bytes)) same;
    }

pub heard_ask : (setup : Setup) (hs : List Heard) (entries : List Entry) (letter : ℕ) (x : Peer) (event : Event)
    → JoinsAreTheClaims → SaysEach hs entries → Contains (routed setup entries letter) event → IsJoinOf x event.body
    → HeardAsk hs x event.tag.index
heard_ask setup hs entries letter x event claims says h joins =
    let among : Contains (flat_map (joins_at setup entries letter) (range_with_len 0 (length entries))) event =
    subst (λ l. Contains l event) (claims setup entries letter)
    (what_passes_is_in (λ (e : Event). is_join e.body) (routed setup entries letter) event h
    (is_a_join x event.body joins)) in
    let (n, in_range, at_n) = is_given_by_one (joins_at setup entries letter) (range_with_len 0 (length entries)) event among in
    let came = at_entry setup entries letter n event at_n in
    subst (λ (at : ℕ). HeardAsk hs x at) (sym came.index) (heard_at hs entries n x event says joins came)
