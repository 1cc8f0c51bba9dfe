-- What one step of a client may do: which state it comes to and by what, what it says, and what it keeps.
use Rattle.std.proofs.Common.{◌≡◌, ◌⊎◌, ℕ, ◌+◌, List, [], ◌∷◌, get_or, refl, sym, ap, ◌∙◌, subst, inl, inr, arith, Option, None, Some, Contains}
use Rattle.std.specs.List.{flat_map}
use Rattle.std.specs.Option.{option_to_list}
use Rattle.m17_lists.proofs.Contents.{nothing_is_in_none, is_the_only_one}
use Rattle.m17_stream.specs.Stream.{SpellsStream}
use Rattle.m17_stream.specs.declared.packet.StreamPacket.{StreamPacket}
use Rattle.m17_control.specs.Forms.{SpellsControl, Spells}
use Rattle.m17_control.specs.declared.packet.Control.{Control}
use Rattle.m17_control.specs.declared.packet.Control.TheVariants.{Conn, Lstn, Ackn, Nack, Ping, Pong, Disc}
use Rattle.m17_control.specs.declared.packet.Packet.{Packet}
use Rattle.m17_control.specs.declared.packet.Packet.TheVariants as packets
use Rattle.m17_client.specs.declared.state.Action.{Action}
use Rattle.m17_client.specs.declared.state.Action.TheVariants.{Say, Keep}
use Rattle.m17_client.specs.declared.state.LastKept.{LastKept}
use Rattle.m17_client.specs.declared.state.State.{State}
use Rattle.m17_client.specs.declared.state.State.TheVariants.{Idle, Connecting, Connected, Leaving, Closed}
use Rattle.m17_client.specs.Standing.{Standing}
use Rattle.m17_client.specs.Client.{Becomes, ByBytes, ByPacket, ByTime, Joins, Keeps, MayKeep, Says, SaysFrame, Stays, join_packet}
use Rattle.m17_client.specs.TalkDevices.{said_by}
use Rattle.m17_client.specs.Way.{IsJoinRequest, kept_in}

abbrev pub state_of : Standing → State
state_of c = c.state

-- the part of a step that comes of time
abbrev pub TimeMoves : Standing → State → Option Action → State → Type 0
TimeMoves c old tick (Connecting tries) =
    ((old ≡ Idle) × Says (join_packet c) tick) ⊎ ((t : ℕ) × (old ≡ Connecting t))
TimeMoves c old tick (Connected at) = old ≡ Connected at
TimeMoves c old tick new = Unit {0}

stays_in_time : (c : Standing) (state : State) (tick : Option Action) → TimeMoves c state tick state
stays_in_time c Idle tick = tt
stays_in_time c (Connecting tries) tick = inr (tries, refl)
stays_in_time c (Connected at) tick = refl
stays_in_time c Leaving tick = tt
stays_in_time c (Closed why) tick = tt

-- what time does to a client that stood so: what it says is its join packet, and only its state and the moment of its
-- last CONN change
pub record TimeDoes (c : Standing) (old : State) (tick : Option Action) (mid : Standing) : Type 0 where
  pub moves : TimeMoves c old tick mid.state
  pub joins : join_packet mid ≡ join_packet c
  pub kept : mid.kept ≡ c.kept
  pub says : (tick ≡ None) ⊎ Says (join_packet c) tick

time_stays : (c : Standing) (old : State) (tick : Option Action) (mid : Standing) → c.state ≡ old
    → Stays c tick mid → TimeDoes c old tick mid
time_stays c old tick mid is (none, same) = record {
  moves = subst (TimeMoves c old tick) (sym (ap state_of same ∙ is)) (stays_in_time c old tick);
  joins = ap join_packet same;
  kept = ap (λ (s : Standing). s.kept) same;
  says = inl none;
}

time_closes : (c : Standing) (old : State) (why : _) (tick : Option Action) (mid : Standing)
    → Becomes (Closed why) c tick mid → TimeDoes c old tick mid
time_closes c old why tick mid (none, new) = record {
  moves = subst (TimeMoves c old tick) (sym (ap state_of new)) tt;
  joins = ap join_packet new;
  kept = ap (λ (s : Standing). s.kept) new;
  says = inl none;
}

time_joins : (c : Standing) (old : State) (tries : ℕ) (tick : Option Action) (mid : Standing)
    → ((old ≡ Idle) ⊎ ((t : ℕ) × (old ≡ Connecting t))) → Joins tries c tick mid → TimeDoes c old tick mid
time_joins c old tries tick mid was (says, new) = record {
  moves = subst (TimeMoves c old tick) (sym (ap state_of new))
      (elim was [ inl idle ↦ inl (idle, says) | inr asking ↦ inr asking ]);
  joins = ap join_packet new;
  kept = ap (λ (s : Standing). s.kept) new;
  says = inr says;
}

pub time_does : (c : Standing) (old : State) (tick : Option Action) (mid : Standing) → c.state ≡ old
    → ByTime old c tick mid → TimeDoes c old tick mid
time_does c Idle tick mid is h = time_joins c Idle 1 tick mid (inl refl) h
time_does c (Connecting tries) tick mid is (inl (late, few, h)) =
    time_joins c (Connecting tries) (tries + 1) tick mid (inr (tries, refl)) h
time_does c (Connecting tries) tick mid is (inr (inl (late, many, h))) =
    time_closes c (Connecting tries) _ tick mid h
time_does c (Connecting tries) tick mid is (inr (inr (early, h))) =
    time_stays c (Connecting tries) tick mid is h
time_does c (Connected at) tick mid is (inl (late, h)) = time_closes c (Connected at) _ tick mid h
time_does c (Connected at) tick mid is (inr (early, h)) = time_stays c (Connected at) tick mid is h
time_does c Leaving tick mid is (inl (late, h)) = time_closes c Leaving _ tick mid h
time_does c Leaving tick mid is (inr (early, h)) = time_stays c Leaving tick mid is h
time_does c (Closed why) tick mid is h = time_stays c (Closed why) tick mid is h

-- the part of a step that comes of bytes
abbrev pub BytesMove : State → List ℕ → State → Type 0
BytesMove mid bytes (Connecting tries) = (t : ℕ) × (mid ≡ Connecting t)
BytesMove mid bytes (Connected at) =
    ((t : ℕ) × (mid ≡ Connecting t) × SpellsControl Ackn bytes) ⊎ ((k : ℕ) × (mid ≡ Connected k))
BytesMove mid bytes new = Unit {0}

stays_by_bytes : (state : State) (bytes : List ℕ) → BytesMove state bytes state
stays_by_bytes Idle bytes = tt
stays_by_bytes (Connecting tries) bytes = (tries, refl)
stays_by_bytes (Connected at) bytes = inr (at, refl)
stays_by_bytes Leaving bytes = tt
stays_by_bytes (Closed why) bytes = tt

-- what is kept of bytes, behind what was kept last: nothing, or the packet that they spell
abbrev pub KeepsOf : Option LastKept → List ℕ → Option Action → Option LastKept → Type 0
KeepsOf last bytes answer new =
    ((flat_map kept_in (option_to_list answer) ≡ []) × (new ≡ last))
    ⊎ ((packet : StreamPacket) × SpellsStream packet bytes × MayKeep last packet
    × (flat_map kept_in (option_to_list answer) ≡ packet ∷ [])
    × (new ≡ Some (record { sid = packet.sid; number = packet.number })))

-- bytes that are no CONN or LSTN
abbrev pub NoRequest : List ℕ → Type 0
NoRequest bytes = (packet : Control) → IsJoinRequest packet → SpellsControl packet bytes → ⊥

-- the action says nothing, or something else than a request
abbrev pub SaysOther : Option Action → Type 0
SaysOther answer =
    (bytes : List ℕ) → Contains (flat_map said_by (option_to_list answer)) bytes → NoRequest bytes

-- bytes that begin with another letter are no request
no_request : (bytes : List ℕ) (letter : ℕ) → get_or bytes 0 0 ≡ letter → (letter ≡ 67 → ⊥)
    → (letter ≡ 76 → ⊥) → NoRequest bytes
no_request bytes letter is no_c no_l (Conn from module_letter) request h =
    no_c (sym is ∙ ap (λ b. get_or b 0 0) h.2)
no_request bytes letter is no_c no_l (Lstn from module_letter) request h =
    no_l (sym is ∙ ap (λ b. get_or b 0 0) h.2)
no_request bytes letter is no_c no_l packet request h = absurd request

says_none : SaysOther None
says_none bytes h = absurd (nothing_is_in_none bytes h)

says_kept : (packet : StreamPacket) → SaysOther (Some (Keep packet))
says_kept packet bytes h = absurd (nothing_is_in_none bytes h)

-- one packet that is no request
says_one : (bytes : List ℕ) (answer : Option Action) → answer ≡ Some (Say (record { items = bytes }))
    → NoRequest bytes → SaysOther answer
says_one bytes answer is no_one said h =
    subst NoRequest
    (is_the_only_one bytes said (subst (λ (a : Option Action). Contains (flat_map said_by (option_to_list a)) said) is h))
    no_one

says_pong : (from : ℕ) (answer : Option Action) → Says (Pong from) answer → SaysOther answer
says_pong from answer (bytes, spelled, is) =
    says_one bytes answer is (no_request bytes 80 (ap (λ b. get_or b 0 0) spelled.1)
    (λ e. omega (arith, e)) (λ e. omega (arith, e)))

pub says_disc : (from : ℕ) (answer : Option Action) → Says (Disc (Some from)) answer → SaysOther answer
says_disc from answer (bytes, spelled, is) =
    says_one bytes answer is (no_request bytes 68 (ap (λ b. get_or b 0 0) spelled.1)
    (λ e. omega (arith, e)) (λ e. omega (arith, e)))

pub says_frame : (packet : StreamPacket) (answer : Option Action) → SaysFrame packet answer → SaysOther answer
says_frame packet answer (bytes, spelled, is) =
    says_one bytes answer is (no_request bytes 77 (ap (λ b. get_or b 0 0) spelled.spelling)
    (λ e. omega (arith, e)) (λ e. omega (arith, e)))

-- what bytes do to a client that stands so
pub record BytesDo (c : Standing) (bytes : List ℕ) (answer : Option Action) (new : Standing) : Type 0 where
  pub moves : BytesMove c.state bytes new.state
  pub joins : join_packet new ≡ join_packet c
  pub keeps : KeepsOf c.kept bytes answer new.kept
  pub says : SaysOther answer

pub says_stays : (answer : Option Action) → answer ≡ None → SaysOther answer
says_stays answer none = subst SaysOther (sym none) says_none

keeps_nothing : (last : Option LastKept) (bytes : List ℕ) (answer : Option Action) (new : Option LastKept)
    → answer ≡ None → new ≡ last → KeepsOf last bytes answer new
keeps_nothing last bytes answer new none same =
    inl (ap (λ (a : Option Action). flat_map kept_in (option_to_list a)) none, same)

pub bytes_stay : (c : Standing) (bytes : List ℕ) (answer : Option Action) (new : Standing)
    → Stays c answer new → BytesDo c bytes answer new
bytes_stay c bytes answer new (none, same) = record {
  moves = subst (BytesMove c.state bytes) (sym (ap state_of same)) (stays_by_bytes c.state bytes);
  joins = ap join_packet same;
  keeps = keeps_nothing c.kept bytes answer new.kept none (ap (λ (s : Standing). s.kept) same);
  says = says_stays answer none;
}

-- it gets this state, which the move allows, and nothing is said or kept
bytes_become : (c : Standing) (bytes : List ℕ) (answer : Option Action) (new : Standing) (state : State)
    → BytesMove c.state bytes state → Becomes state c answer new → BytesDo c bytes answer new
bytes_become c bytes answer new state move (none, is) = record {
  moves = subst (BytesMove c.state bytes) (sym (ap state_of is)) move;
  joins = ap join_packet is;
  keeps = keeps_nothing c.kept bytes answer new.kept none (ap (λ (s : Standing). s.kept) is);
  says = says_stays answer none;
}

bytes_heard : (c : Standing) (at : ℕ) (bytes : List ℕ) (answer : Option Action) (new : Standing)
    → c.state ≡ Connected at → Becomes (Connected c.moment) c answer new → BytesDo c bytes answer new
bytes_heard c at bytes answer new is h = bytes_become c bytes answer new (Connected c.moment) (inr (at, is)) h

bytes_ping : (c : Standing) (at : ℕ) (bytes : List ℕ) (answer : Option Action) (new : Standing)
    → c.state ≡ Connected at → Says (Pong c.call) answer × (new ≡ record c { state = Connected c.moment })
    → BytesDo c bytes answer new
bytes_ping c at bytes answer new is (says, new_is) = record {
  moves = subst (BytesMove c.state bytes) (sym (ap state_of new_is)) (inr (at, is));
  joins = ap join_packet new_is;
  keeps = inl (
    ap (λ (a : Option Action). flat_map kept_in (option_to_list a)) says.2,
    ap (λ (s : Standing). s.kept) new_is,
  );
  says = says_pong c.call answer says;
}

bytes_frame : (c : Standing) (at : ℕ) (bytes : List ℕ) (packet : StreamPacket) (answer : Option Action)
    (new : Standing) → c.state ≡ Connected at → SpellsStream packet bytes
    → Keeps packet (record c { state = Connected c.moment }) answer new → BytesDo c bytes answer new
bytes_frame c at bytes packet answer new is spelled (inl (may, keep, new_is)) = record {
  moves = subst (BytesMove c.state bytes) (sym (ap state_of new_is)) (inr (at, is));
  joins = ap join_packet new_is;
  keeps = inr (
    packet,
    spelled,
    may,
    ap (λ (a : Option Action). flat_map kept_in (option_to_list a)) keep,
    ap (λ (s : Standing). s.kept) new_is,
  );
  says = subst SaysOther (sym keep) (says_kept packet);
}
bytes_frame c at bytes packet answer new is spelled (inr (may_not, same)) =
    bytes_heard c at bytes answer new is same

of_packet : (state : State) (packet : Packet) (c : Standing) (bytes : List ℕ) (answer : Option Action)
    (new : Standing) → c.state ≡ state → Spells packet bytes → ByPacket state packet c answer new
    → BytesDo c bytes answer new
of_packet Idle packet c bytes answer new is spelled h = bytes_stay c bytes answer new h
of_packet (Connecting tries) (packets.Control Ackn) c bytes answer new is spelled h =
    bytes_become c bytes answer new (Connected c.moment) (inl (tries, is, spelled)) h
of_packet (Connecting tries) (packets.Control Nack) c bytes answer new is spelled h =
    bytes_become c bytes answer new _ tt h
of_packet (Connecting tries) (packets.Control (Disc from)) c bytes answer new is spelled h =
    bytes_become c bytes answer new _ tt h
of_packet (Connecting tries) packet c bytes answer new is spelled h = bytes_stay c bytes answer new h
of_packet (Connected at) (packets.Control (Ping from)) c bytes answer new is spelled h =
    bytes_ping c at bytes answer new is h
of_packet (Connected at) (packets.Control (Disc from)) c bytes answer new is spelled h =
    bytes_become c bytes answer new _ tt h
of_packet (Connected at) (packets.Stream packet) c bytes answer new is spelled h =
    bytes_frame c at bytes packet answer new is spelled h
of_packet (Connected at) packet c bytes answer new is spelled h =
    bytes_heard c at bytes answer new is h
of_packet Leaving (packets.Control (Disc from)) c bytes answer new is spelled h =
    bytes_become c bytes answer new _ tt h
of_packet Leaving packet c bytes answer new is spelled h = bytes_stay c bytes answer new h
of_packet (Closed why) packet c bytes answer new is spelled h = bytes_stay c bytes answer new h

pub bytes_do : (c : Standing) (bytes : List ℕ) (answer : Option Action) (new : Standing)
    → ByBytes bytes c answer new → BytesDo c bytes answer new
bytes_do c bytes answer new (inl (packet, spelled, h)) =
    of_packet c.state packet c bytes answer new refl spelled h
bytes_do c bytes answer new (inr (refusal, refused, h)) = bytes_stay c bytes answer new h
