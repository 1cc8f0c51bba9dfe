-- What the client's table says of each step: that it keeps one packet at most, that a client goes
-- on to listen only or not, and which steps say a stream packet.
use Rattle.std.proofs.Common.{◌≡◌, ℕ, ◌+◌, ◌≤◌, Bool, true, false, cond, List, [], ◌∷◌, ◌++◌, length, get_or, refl, sym, ap, ◌∙◌, subst, inl, inr, arith, Option, None, Some}
use Rattle.std.specs.List.{AllByRecursion, flat_map}
use Rattle.std.specs.Option.{option_to_list}
use Rattle.std.proofs.lemmas.Grind.{flat_map-append}
use Rattle.m17_stream.specs.Stream.{SpellsStream}
use Rattle.m17_stream.specs.declared.packet.StreamPacket.{StreamPacket}
use Rattle.m17_control.specs.Forms.{SpellsControl}
use Rattle.m17_control.specs.declared.packet.Control.TheVariants.{Conn, Lstn, Ackn, Nack, Pong, Ping, Disc}
use Rattle.m17_control.specs.declared.packet.Packet.{Packet}
use Rattle.m17_control.specs.declared.packet.Packet.TheVariants as packets
use Rattle.m17_client.specs.declared.state.Action.{Action}
use Rattle.m17_client.specs.declared.state.Action.TheVariants.{Say, Keep}
use Rattle.m17_client.specs.declared.state.Input.{Input}
use Rattle.m17_client.specs.declared.state.Input.TheVariants.{Datagram, Quiet, Send, Leave}
use Rattle.m17_client.specs.declared.state.State.{State}
use Rattle.m17_client.specs.declared.state.State.TheVariants.{Idle, Connecting, Connected, Leaving, Closed}
use Rattle.m17_client.specs.Standing.{Standing, at_moment}
use Rattle.m17_client.specs.Client.{Becomes, ByBytes, ByDatagram, ByLeave, ByPacket, BySend, ByTime, IsClientStep, Joins, Keeps, Says, Stays}
use Rattle.m17_client.specs.Steps.{is_connected, is_send}
use Rattle.m17_client.specs.TalkDevices.{said_by}
use Rattle.m17_client.specs.Way.{kept_in}
use Rattle.m17_client.specs.Promise.{IsNoFrame}

abbrev listens_of : Standing → Bool
listens_of c = c.listens

-- bytes that begin with another letter are no stream packet
no_frame : (bytes : List ℕ) (letter : ℕ) → get_or bytes 0 0 ≡ letter → (letter ≡ 77 → ⊥) → IsNoFrame bytes
no_frame bytes letter is no_m packet spelled =
    no_m (sym is ∙ ap (λ b. get_or b 0 0) spelled.spelling)

join_is_none : (listens : Bool) (call letter : ℕ) (bytes : List ℕ)
    → SpellsControl (cond listens (Lstn call letter) (Conn call letter)) bytes → IsNoFrame bytes
join_is_none true call letter bytes spelled =
    no_frame bytes 76 (ap (λ b. get_or b 0 0) spelled.2) (λ e. omega (arith, e))
join_is_none false call letter bytes spelled =
    no_frame bytes 67 (ap (λ b. get_or b 0 0) spelled.2) (λ e. omega (arith, e))

-- what an action is: it says no stream packet, and the client goes on to listen only or not
record Does (c : Standing) (action : Option Action) (new : Standing) : Type 0 where
  listens : new.listens ≡ c.listens
  quiet : AllByRecursion IsNoFrame (flat_map said_by (option_to_list action))

quiet_none : (action : Option Action) → action ≡ None
    → AllByRecursion IsNoFrame (flat_map said_by (option_to_list action))
quiet_none action is =
    subst (λ (a : Option Action). AllByRecursion IsNoFrame (flat_map said_by (option_to_list a))) (sym is) tt

quiet_said : (action : Option Action) (bytes : List ℕ) → action ≡ Some (Say (record { items = bytes }))
    → IsNoFrame bytes → AllByRecursion IsNoFrame (flat_map said_by (option_to_list action))
quiet_said action bytes is none =
    subst (λ (a : Option Action). AllByRecursion IsNoFrame (flat_map said_by (option_to_list a))) (sym is) (none, tt)

quiet_kept : (action : Option Action) (packet : StreamPacket) → action ≡ Some (Keep packet)
    → AllByRecursion IsNoFrame (flat_map said_by (option_to_list action))
quiet_kept action packet is =
    subst (λ (a : Option Action). AllByRecursion IsNoFrame (flat_map said_by (option_to_list a))) (sym is) tt

does_stay : (c : Standing) (action : Option Action) (new : Standing) → Stays c action new → Does c action new
does_stay c action new (none, same) =
    record { listens = ap listens_of same; quiet = quiet_none action none }

does_become : (c : Standing) (state : State) (action : Option Action) (new : Standing)
    → Becomes state c action new → Does c action new
does_become c state action new (none, is) =
    record { listens = ap listens_of is; quiet = quiet_none action none }

-- time says a join packet at most, and keeps nothing
record TimeDoes (c : Standing) (tick : Option Action) (mid : Standing) : Type 0 where
  does : Does c tick mid
  keeps : flat_map kept_in (option_to_list tick) ≡ []

time_none : (c : Standing) (tick : Option Action) (mid : Standing) → tick ≡ None → Does c tick mid
    → TimeDoes c tick mid
time_none c tick mid none does = record {
  does = does;
  keeps = ap (λ (a : Option Action). flat_map kept_in (option_to_list a)) none;
}

time_stays : (c : Standing) (tick : Option Action) (mid : Standing) → Stays c tick mid → TimeDoes c tick mid
time_stays c tick mid h = time_none c tick mid h.0 (does_stay c tick mid h)

time_becomes : (c : Standing) (state : State) (tick : Option Action) (mid : Standing)
    → Becomes state c tick mid → TimeDoes c tick mid
time_becomes c state tick mid h = time_none c tick mid h.0 (does_become c state tick mid h)

time_joins : (c : Standing) (tries : ℕ) (tick : Option Action) (mid : Standing) → Joins tries c tick mid
    → TimeDoes c tick mid
time_joins c tries tick mid ((bytes, spelled, is), new) = record {
  does = record {
    listens = ap listens_of new;
    quiet = quiet_said tick bytes is (join_is_none c.listens c.call c.letter bytes spelled);
  };
  keeps = ap (λ (a : Option Action). flat_map kept_in (option_to_list a)) is;
}

time_does : (c : Standing) (state : State) (tick : Option Action) (mid : Standing) → ByTime state c tick mid
    → TimeDoes c tick mid
time_does c Idle tick mid h = time_joins c 1 tick mid h
time_does c (Connecting tries) tick mid (inl (late, few, h)) = time_joins c (tries + 1) tick mid h
time_does c (Connecting tries) tick mid (inr (inl (late, many, h))) = time_becomes c _ tick mid h
time_does c (Connecting tries) tick mid (inr (inr (early, h))) = time_stays c tick mid h
time_does c (Connected at) tick mid (inl (late, h)) = time_becomes c _ tick mid h
time_does c (Connected at) tick mid (inr (early, h)) = time_stays c tick mid h
time_does c Leaving tick mid (inl (late, h)) = time_becomes c _ tick mid h
time_does c Leaving tick mid (inr (early, h)) = time_stays c tick mid h
time_does c (Closed why) tick mid h = time_stays c tick mid h

says_pong : (c : Standing) (state : State) (action : Option Action) (new : Standing)
    → Says (Pong c.call) action × (new ≡ record c { state = state }) → Does c action new
says_pong c state action new ((bytes, spelled, is), new_is) = record {
  listens = ap listens_of new_is;
  quiet = quiet_said action bytes is
      (no_frame bytes 80 (ap (λ b. get_or b 0 0) spelled.1) (λ e. omega (arith, e)));
}

keeps_packet : (c : Standing) (state : State) (packet : StreamPacket) (action : Option Action) (new : Standing)
    → Keeps packet (record c { state = state }) action new → Does c action new
keeps_packet c state packet action new (inl (may, keep, is)) =
    record { listens = ap listens_of is; quiet = quiet_kept action packet keep }
keeps_packet c state packet action new (inr (may_not, same)) = does_become c state action new same

of_packet : (state : State) (packet : Packet) (c : Standing) (action : Option Action) (new : Standing)
    → ByPacket state packet c action new → Does c action new
of_packet Idle packet c action new h = does_stay c action new h
of_packet (Connecting tries) (packets.Control Ackn) c action new h = does_become c _ action new h
of_packet (Connecting tries) (packets.Control Nack) c action new h = does_become c _ action new h
of_packet (Connecting tries) (packets.Control (Disc from)) c action new h = does_become c _ action new h
of_packet (Connecting tries) packet c action new h = does_stay c action new h
of_packet (Connected at) (packets.Control (Ping from)) c action new h = says_pong c _ action new h
of_packet (Connected at) (packets.Control (Disc from)) c action new h = does_become c _ action new h
of_packet (Connected at) (packets.Stream packet) c action new h = keeps_packet c _ packet action new h
of_packet (Connected at) packet c action new h = does_become c _ action new h
of_packet Leaving (packets.Control (Disc from)) c action new h = does_become c _ action new h
of_packet Leaving packet c action new h = does_stay c action new h
of_packet (Closed why) packet c action new h = does_stay c action new h

of_bytes : (c : Standing) (bytes : List ℕ) (action : Option Action) (new : Standing)
    → ByBytes bytes c action new → Does c action new
of_bytes c bytes action new (inl (packet, spelled, h)) = of_packet c.state packet c action new h
of_bytes c bytes action new (inr (refusal, refused, h)) = does_stay c action new h

of_datagram : (state : State) (bytes : List ℕ) (c : Standing) (action : Option Action) (new : Standing)
    → ByDatagram state bytes c action new → Does c action new
of_datagram state bytes c action new (inl (idle, h)) = does_stay c action new h
of_datagram state bytes c action new (inr (awake, h)) = of_bytes c bytes action new h

parts : (c : Standing) (call : ℕ) (action : Option Action) (new : Standing) → listens_of new ≡ c.listens
    → Says (Disc (Some call)) action → Does c action new
parts c call action new listens (bytes, spelled, is) = record {
  listens = listens;
  quiet = quiet_said action bytes is
      (no_frame bytes 68 (ap (λ b. get_or b 0 0) spelled.1) (λ e. omega (arith, e)));
}

of_leave : (state : State) (c : Standing) (action : Option Action) (new : Standing)
    → ByLeave state c action new → Does c action new
of_leave Idle c action new h = does_become c _ action new h
of_leave (Connecting tries) c action new h = parts c c.call action new (ap listens_of h.1) h.0
of_leave (Connected at) c action new h = parts c c.call action new (ap listens_of h.1) h.0
of_leave Leaving c action new h = does_stay c action new h
of_leave (Closed why) c action new h = does_stay c action new h

-- what a list of two actions says and keeps
two_quiet : (tick answer : Option Action)
    → AllByRecursion IsNoFrame (flat_map said_by (option_to_list tick))
    → AllByRecursion IsNoFrame (flat_map said_by (option_to_list answer))
    → AllByRecursion IsNoFrame (flat_map said_by (option_to_list tick ++ option_to_list answer))
two_quiet None answer first second = second
two_quiet (Some (Say bytes)) answer first second = (first.0, second)
two_quiet (Some (Keep packet)) answer first second = second

kept_at_most_one : (answer : Option Action) → length (flat_map kept_in (option_to_list answer)) ≤ 1
kept_at_most_one None = omega arith
kept_at_most_one (Some (Say bytes)) = omega arith
kept_at_most_one (Some (Keep packet)) = omega arith

two_kept : (tick answer : Option Action) → flat_map kept_in (option_to_list tick) ≡ []
    → length (flat_map kept_in (option_to_list tick ++ option_to_list answer)) ≤ 1
two_kept tick answer none =
    let all = flat_map-append kept_in (option_to_list tick) (option_to_list answer)
    ∙ ap (λ l. l ++ flat_map kept_in (option_to_list answer)) none in
    let long = ap length all in
    let one = kept_at_most_one answer in omega arith

-- A step keeps one packet at most.
pub keeps_one : (old : Standing) (input : Input) (actions : List Action) (new : Standing)
    → IsClientStep old input actions new → length (flat_map kept_in actions) ≤ 1
keeps_one old (Datagram at bytes) actions new (tick, answer, mid, by_tick, by_answer, are) =
    subst (λ l. length (flat_map kept_in l) ≤ 1) (sym are)
    (two_kept tick answer (time_does (at_moment old at) old.state tick mid by_tick).keeps)
keeps_one old (Quiet at) actions new (tick, by_tick, are) =
    subst (λ l. length (flat_map kept_in l) ≤ 1) (sym are) (kept_at_most_one tick)
keeps_one old (Send packet) actions new (answer, by_answer, are) =
    subst (λ l. length (flat_map kept_in l) ≤ 1) (sym are) (kept_at_most_one answer)
keeps_one old Leave actions new (answer, by_answer, are) =
    subst (λ l. length (flat_map kept_in l) ≤ 1) (sym are) (kept_at_most_one answer)

-- A step on what was heard, or on Leave.
pub record Heard (old : Standing) (actions : List Action) (new : Standing) : Type 0 where
  pub listens : new.listens ≡ old.listens
  pub quiet : AllByRecursion IsNoFrame (flat_map said_by actions)

heard_one : (old c : Standing) (action : Option Action) (actions : List Action) (new : Standing)
    → c.listens ≡ old.listens → actions ≡ option_to_list action → Does c action new → Heard old actions new
heard_one old c action actions new same are does = record {
  listens = does.listens ∙ same;
  quiet = subst (λ l. AllByRecursion IsNoFrame (flat_map said_by l)) (sym are) does.quiet;
}

pub hears : (old : Standing) (input : Input) (actions : List Action) (new : Standing) → is_send input ≡ false
    → IsClientStep old input actions new → Heard old actions new
hears old (Datagram at bytes) actions new unsent (tick, answer, mid, by_tick, by_answer, are) =
    let first = (time_does (at_moment old at) old.state tick mid by_tick).does in
    let second = of_datagram old.state bytes mid answer new by_answer in record {
      listens = second.listens ∙ first.listens;
      quiet = subst (λ l. AllByRecursion IsNoFrame (flat_map said_by l)) (sym are)
          (two_quiet tick answer first.quiet second.quiet);
    }
hears old (Quiet at) actions new unsent (tick, by_tick, are) =
    heard_one old (at_moment old at) tick actions new refl are
    (time_does (at_moment old at) old.state tick new by_tick).does
hears old (Send packet) actions new unsent h = absurd (cc)
hears old Leave actions new unsent (answer, by_answer, are) =
    heard_one old old answer actions new refl are (of_leave old.state old answer new by_answer)

-- A step on a packet of the user: a client that is connected, and doesn't only listen, says it, and
-- stays as it is.
pub record Sent (packet : StreamPacket) (old : Standing) (actions : List Action) (new : Standing)
    : Type 0 where
  pub bytes : List ℕ
  pub spelled : SpellsStream packet bytes
  pub says : flat_map said_by actions ≡ bytes ∷ []
  pub same : new ≡ old

by_send : (state : State) (listens : Bool) (packet : StreamPacket) (old : Standing) (answer : Option Action)
    (actions : List Action) (new : Standing) → is_connected state ≡ true → listens ≡ false
    → actions ≡ option_to_list answer → BySend state listens packet old answer new
    → Sent packet old actions new
by_send (Connected at) false packet old answer actions new on speaks are ((bytes, spelled, is), same) =
    record {
      bytes = bytes;
      spelled = spelled;
      says = ap (flat_map said_by) (are ∙ ap option_to_list is);
      same = same;
    }
by_send (Connected at) true packet old answer actions new on speaks are h = absurd (cc)
by_send Idle listens packet old answer actions new on speaks are h = absurd (cc)
by_send (Connecting tries) listens packet old answer actions new on speaks are h = absurd (cc)
by_send Leaving listens packet old answer actions new on speaks are h = absurd (cc)
by_send (Closed why) listens packet old answer actions new on speaks are h = absurd (cc)

pub sends : (old : Standing) (packet : StreamPacket) (actions : List Action) (new : Standing)
    → is_connected old.state ≡ true → old.listens ≡ false
    → IsClientStep old (Send packet) actions new → Sent packet old actions new
sends old packet actions new on speaks (answer, by_answer, are) =
    by_send old.state old.listens packet old answer actions new on speaks are by_answer
