-- What is true of each line of the table, and so of what each packet comes to.
use Rattle.std.proofs.Common.{◌≡◌, ◌⊎◌, ℕ, Bool, true, false, cond, not, ◌||◌, List, [], ◌∷◌, Option, None, Some, is_some, inl, inr, refl, ap, sym, ◌∙◌}
use Rattle.std.proofs.lemmas.Bool.{false≢true, not-false}
use Rattle.std.proofs.lemmas.Option.{same_Some, none-some}
use Rattle.m17_values.specs.declared.peer.Peer.{Peer}
use Rattle.m17_stream.specs.declared.packet.StreamPacket.{StreamPacket}
use Rattle.m17_control.specs.declared.event.Body.TheVariants as body
use Rattle.m17_control.specs.declared.event.Why.{Why}
use Rattle.m17_control.specs.declared.event.Why.TheVariants.{Moved, Replaced}
use Rattle.m17_control.specs.declared.packet.Control.{Control}
use Rattle.m17_control.specs.declared.packet.Control.TheVariants as control
use Rattle.m17_control.specs.declared.packet.Packet.{Packet}
use Rattle.m17_control.specs.declared.packet.Packet.TheVariants as packets
use Rattle.m17_control.specs.Modules.{serves}
use Rattle.m17_directory.specs.declared.known.Known.{Known}
use Rattle.m17_directory.specs.declared.known.Request.{Request}
use Rattle.m17_directory.specs.declared.verdict.Act.{Act}
use Rattle.m17_directory.specs.declared.verdict.Act.TheVariants as act
use Rattle.m17_directory.specs.declared.verdict.LinkVerdict.{LinkVerdict}
use Rattle.m17_directory.specs.declared.verdict.LinkVerdict.TheVariants.{Routed, Alive, Asks, NotConnected, NotServed, Stray}
use Rattle.m17_directory.specs.Entries.{is_disc}
use Rattle.m17_directory.specs.Known.{request_of}
use Rattle.m17_directory.specs.Outcome.{Here, Outcome, Line, only, to_module, to_door, posting, leaving, is_what, line_known_asks, line_other_asks, line_of_known, line_of_other, outcome_of, of_known, of_other, of_packet}
use Rattle.m17_directory.specs.Routed.{is_asks}
use Rattle.m17_directory.specs.Laws.{packet_routed, is_ended, is_full, is_joining, is_door_reply}

-- whether somebody leaves
abbrev pub is_left : List Known → Bool
is_left [] = false
is_left (k ∷ left) = true

-- the packet requests a place in a served module
abbrev pub IsAskedFor : Here → Packet → Type 0
IsAskedFor here p = (request : Request) × (request_of p ≡ Some request) × (serves here.setup.modules request.letter ≡ true)

-- What the table says of a packet, but of a voice frame: it has not joined, nor is turned away, nor ends the link; where it asks it is
-- for a served module; and one that is known leaves where it asks, or says DISC.
pub record IsSaid (here : Here) (row : Option Known) (p : Packet) (leaves : Bool) (v : LinkVerdict) : Type 0 where
  pub full : is_full v ≡ false
  pub joins : is_joining v ≡ false
  pub ended : is_ended v ≡ false
  pub packet : packet_routed v ≡ []
  pub asks : is_asks v ≡ true → IsAskedFor here p
  pub left : is_some row ≡ true → (is_asks v || is_disc p) ≡ leaves

-- The lines of the table are such.
abbrev pub IsInTable : Here → Option Known → Packet → Line → Type 0
IsInTable here row p (Line.Nothing v) = IsSaid here row p false v
IsInTable here row p (Line.AtDoor v reply) = IsSaid here row p false v × (is_door_reply reply ≡ true)
IsInTable here row p (Line.Frame k frame) = (row ≡ Some k) × (p ≡ packets.Stream frame)
IsInTable here row p (Line.Reply k what reply) = (row ≡ Some k) × IsSaid here row p false (Routed k.letter what)
IsInTable here row p (Line.Leaves k v why) = (row ≡ Some k) × IsSaid here row p true v × (why ≡ Replaced → ⊥)

module _ (here : Here) (row : Option Known) (p : Packet) where
  -- what is said, where it doesn't ask
  said : (v : LinkVerdict) (leaves : Bool) → is_full v ≡ false → is_joining v ≡ false → is_ended v ≡ false → packet_routed v ≡ [] → is_asks v ≡ false
      → (is_some row ≡ true → is_disc p ≡ leaves) → IsSaid here row p leaves v
  said v leaves f j e r a l = record {
    full = f;
    joins = j;
    ended = e;
    packet = r;
    asks = λ t. absurd (false≢true (sym a ∙ t));
    left = λ s. ap (λ b. b || is_disc p) a ∙ l s;
  }

  -- and where it asks
  asked : (request : Request) (leaves : Bool) → request_of p ≡ Some request → serves here.setup.modules request.letter ≡ true → (is_some row ≡ true → true ≡ leaves) → IsSaid here row p leaves Asks
  asked request leaves is served l = record { full = refl; joins = refl; ended = refl; packet = refl; asks = λ t. (request, is, served); left = l }

  by : (b : Bool) (line other : Line) → (b ≡ true → IsInTable here row p line) → (b ≡ false → IsInTable here row p other) → IsInTable here row p (cond b line other)
  by true line other h g = h refl
  by false line other h g = g refl

  not_served : (letter : ℕ) → is_disc p ≡ false → IsInTable here row p (Line.AtDoor (NotServed letter) control.Nack)
  not_served letter d = (said (NotServed letter) false refl refl refl refl refl (λ s. d), refl)

known_asks_is : (here : Here) (k : Known) (p : Packet) (request : Request) → request_of p ≡ Some request → is_disc p ≡ false → IsInTable here (Some k) p (line_known_asks here k request)
known_asks_is here k p request is d =
    let row : Option Known = Some k in
    let door : Line = Line.AtDoor (NotServed request.letter) control.Nack in
    let again : Line = Line.Reply k act.Again control.Ackn in
    let moved : Line = Line.Leaves k Asks Moved in
    by here row p (not (serves here.setup.modules request.letter)) door (cond (is_what request k) again moved) (λ e. not_served here row p request.letter d)
    (λ e. by here row p (is_what request k) again moved
    (λ same. (refl, said here row p (Routed k.letter act.Again) false refl refl refl refl refl (λ s. d)))
    (λ same. (refl, asked here row p request true is (not-false (serves here.setup.modules request.letter) e) (λ s. refl), λ w. cc)))

other_asks_is : (here : Here) (p : Packet) (request : Request) → request_of p ≡ Some request → is_disc p ≡ false → IsInTable here None p (line_other_asks here request)
other_asks_is here p request is d =
    let row : Option Known = None in
    by here row p (not (serves here.setup.modules request.letter)) (Line.AtDoor (NotServed request.letter) control.Nack) (Line.Nothing Asks) (λ e. not_served here row p request.letter d)
    (λ e. asked here row p request false is (not-false (serves here.setup.modules request.letter) e) (λ s. absurd (false≢true s)))

-- of one that is known, and of another peer
known_is : (here : Here) (k : Known) (p : Packet) → IsInTable here (Some k) p (line_of_known here k p)
known_is here k (packets.Control (control.Conn from letter)) = known_asks_is here k (packets.Control (control.Conn from letter)) (record { letter = letter; callsign = from; listen = false }) refl refl
known_is here k (packets.Control (control.Lstn from letter)) = known_asks_is here k (packets.Control (control.Lstn from letter)) (record { letter = letter; callsign = from; listen = true }) refl refl
known_is here k (packets.Stream frame) = (refl, refl)
known_is here k (packets.Control (control.Ping from)) = (refl, said here (Some k) (packets.Control (control.Ping from)) (Routed k.letter act.Pong) false refl refl refl refl refl (λ s. refl))
known_is here k (packets.Control (control.Pong from)) = said here (Some k) (packets.Control (control.Pong from)) (Alive k.letter) false refl refl refl refl refl (λ s. refl)
known_is here k (packets.Control (control.Disc from)) = (refl, said here (Some k) (packets.Control (control.Disc from)) (Routed k.letter act.Leave) true refl refl refl refl refl (λ s. refl), λ w. cc)
known_is here k (packets.Control control.Ackn) = said here (Some k) (packets.Control control.Ackn) Stray false refl refl refl refl refl (λ s. refl)
known_is here k (packets.Control control.Nack) = said here (Some k) (packets.Control control.Nack) Stray false refl refl refl refl refl (λ s. refl)

unknown : (here : Here) (p : Packet) → IsInTable here None p (Line.Nothing NotConnected)
unknown here p = said here None p NotConnected false refl refl refl refl refl (λ s. absurd (false≢true s))

stray : (here : Here) (p : Packet) → IsInTable here None p (Line.Nothing Stray)
stray here p = said here None p Stray false refl refl refl refl refl (λ s. absurd (false≢true s))

other_is : (here : Here) (p : Packet) → IsInTable here None p (line_of_other here p)
other_is here (packets.Control (control.Conn from letter)) = other_asks_is here (packets.Control (control.Conn from letter)) (record { letter = letter; callsign = from; listen = false }) refl refl
other_is here (packets.Control (control.Lstn from letter)) = other_asks_is here (packets.Control (control.Lstn from letter)) (record { letter = letter; callsign = from; listen = true }) refl refl
other_is here (packets.Stream frame) = unknown here (packets.Stream frame)
other_is here (packets.Control (control.Ping from)) = unknown here (packets.Control (control.Ping from))
other_is here (packets.Control (control.Pong from)) = unknown here (packets.Control (control.Pong from))
other_is here (packets.Control (control.Disc None)) = unknown here (packets.Control (control.Disc None))
other_is here (packets.Control (control.Disc (Some from))) = (unknown here (packets.Control (control.Disc (Some from))), refl)
other_is here (packets.Control control.Ackn) = stray here (packets.Control control.Ackn)
other_is here (packets.Control control.Nack) = stray here (packets.Control control.Nack)

-- What is true of each kind of line is true of what each packet comes to.
pub record OfLines (P : Outcome → Type 0) (here : Here) (row : Option Known) (p : Packet) : Type 0 where
  pub nothing : (v : LinkVerdict) → IsSaid here row p false v → P (only v)
  pub at_door : (x : Peer) (v : LinkVerdict) (reply : Control) → IsSaid here row p false v → is_door_reply reply ≡ true → P (posting v (to_door here x reply))
  pub frame : (k : Known) (s : StreamPacket) → row ≡ Some k → p ≡ packets.Stream s → P (posting (Routed k.letter act.Packet) (to_module here k.letter (body.Packet k.member s)))
  pub reply : (k : Known) (what : Act) (reply : Control) → row ≡ Some k → IsSaid here row p false (Routed k.letter what) → P (posting (Routed k.letter what) (to_module here k.letter (body.Reply k.member reply)))
  pub leaves : (k : Known) (v : LinkVerdict) (why : Why) → row ≡ Some k → IsSaid here row p true v → (why ≡ Replaced → ⊥) → P (leaving here v why k)

of_line : (P : Outcome → Type 0) (here : Here) (row : Option Known) (p : Packet) (x : Peer) (line : Line) → IsInTable here row p line → OfLines P here row p → P (outcome_of here x line)
of_line P here row p x (Line.Nothing v) is h = h.nothing v is
of_line P here row p x (Line.AtDoor v reply) is h = h.at_door x v reply is.0 is.1
of_line P here row p x (Line.Frame k s) is h = h.frame k s is.0 is.1
of_line P here row p x (Line.Reply k what reply) is h = h.reply k what reply is.0 is.1
of_line P here row p x (Line.Leaves k v why) is h = h.leaves k v why is.0 is.1 is.2

pub of_lines : (P : Outcome → Type 0) (here : Here) (x : Peer) (row : Option Known) (p : Packet) → OfLines P here row p → P (of_packet here x row p)
of_lines P here x (Some k) p h = of_line P here (Some k) p k.peer (line_of_known here k p) (known_is here k p) h
of_lines P here x None p h = of_line P here None p x (line_of_other here p) (other_is here p) h

-- who asks, asks for a place in a served module
pub asks_for : (here : Here) (x : Peer) (row : Option Known) (p : Packet) → is_asks (of_packet here x row p).verdict ≡ true → IsAskedFor here p
asks_for here x row p = of_lines (λ o. is_asks o.verdict ≡ true → IsAskedFor here p) here x row p (record {
  nothing = λ v said. said.asks;
  at_door = λ y v reply said is. said.asks;
  frame = λ k s is of a. absurd (false≢true a);
  reply = λ k what reply is said. said.asks;
  leaves = λ k v why is said other. said.asks;
})

-- no packet ends the link
pub goes_on : (here : Here) (x : Peer) (row : Option Known) (p : Packet) → is_ended (of_packet here x row p).verdict ≡ false
goes_on here x row p = of_lines (λ o. is_ended o.verdict ≡ false) here x row p (record {
  nothing = λ v said. said.ended;
  at_door = λ y v reply said is. said.ended;
  frame = λ k s is of. refl;
  reply = λ k what reply is said. said.ended;
  leaves = λ k v why is said other. said.ended;
})

-- one that is known leaves where it asks, or says DISC; and nobody else
pub known_left : (here : Here) (k : Known) (p : Packet) → is_left (of_known here k p).left ≡ (is_asks (of_known here k p).verdict || is_disc p)
known_left here k p = of_lines (λ o. is_left o.left ≡ (is_asks o.verdict || is_disc p)) here k.peer (Some k) p (record {
  nothing = λ v said. sym (said.left refl);
  at_door = λ y v reply said is. sym (said.left refl);
  frame = λ r s is of. sym (ap is_disc of);
  reply = λ r what reply is said. sym (said.left refl);
  leaves = λ r v why is said other. sym (said.left refl);
})

abbrev pub LeftIs : Known → Outcome → Type 0
LeftIs k o = (o.left ≡ []) ⊎ (o.left ≡ k ∷ [])

pub left_is : (here : Here) (k : Known) (p : Packet) → LeftIs k (of_known here k p)
left_is here k p = of_lines (LeftIs k) here k.peer (Some k) p (record {
  nothing = λ v said. inl refl;
  at_door = λ y v reply said is. inl refl;
  frame = λ r s is of. inl refl;
  reply = λ r what reply is said. inl refl;
  leaves = λ r v why is said other. inr (ap (λ z. z ∷ []) (sym (same_Some k r is)));
})

pub other_left : (here : Here) (x : Peer) (p : Packet) → (of_other here x p).left ≡ []
other_left here x p = of_lines (λ o. o.left ≡ []) here x None p (record {
  nothing = λ v said. refl;
  at_door = λ y v reply said is. refl;
  frame = λ k s is of. refl;
  reply = λ k what reply is said. refl;
  leaves = λ k v why is said other. absurd (none-some k is);
})
