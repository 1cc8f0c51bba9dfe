-- What a position gives to a member: what is neither Hello nor Bye, and then a Bye at most.
use Rattle.std.proofs.Common.{◌≡◌, ◌≢◌, ℕ, ◌+◌, ◌/◌, ◌<◌, ◌≤◌, ◌⊎◌, ◌&&◌, Bool, true, false, not, cond, List, [], ◌∷◌, ◌++◌, length, map, get_or, nat_lt, eqb, Option, None, Some, refl, ap, sym, ◌∙◌, arith, inl, inr, subst}
use Rattle.std.specs.List.{filter}
use Rattle.std.proofs.lemmas.Bool.{cond-true, cond-false, true≢false, lt-ltb, eq-eqb}
use Rattle.std.proofs.lemmas.List.{append-nil, append_assoc}
use Rattle.m17_values.specs.declared.member.Member.{Member}
use Rattle.m17_stream.specs.declared.packet.StreamPacket.{StreamPacket}
use Rattle.m17_control.specs.declared.event.Body.{Body}
use Rattle.m17_control.specs.declared.event.Body.TheVariants.{Join, Leave, Packet, Reply, Tick, Stop}
use Rattle.m17_control.specs.declared.event.Event.{Event}
use Rattle.m17_control.specs.declared.event.Why.{Why}
use Rattle.m17_control.specs.declared.event.Why.TheVariants.{Replaced}
use Rattle.m17_control.specs.declared.item.Item.{Item}
use Rattle.m17_control.specs.declared.item.Said.{Said}
use Rattle.m17_control.specs.declared.item.Said.TheVariants as said
use Rattle.m17_floor.specs.Acts.{is_same, is_join_of, settles, moment_before, moment_at}
use Rattle.m17_floor.specs.Floor.{admits, verdict_at}
use Rattle.m17_module.specs.Setup.{floor_setup}
use Rattle.m17_module.specs.declared.seat.Seat.{Seat}
use Rattle.m17_module.specs.Events.{kind_of, acts_of}
use Rattle.m17_module.specs.Seats.{seats_at, members_of, seat_in, if_of, seat_of, others_than}
use Rattle.m17_module.specs.Echoes.{echo_at}
use Rattle.m17_module.specs.Items.{Setup, ping_every_ms, item_to, to_one, greets, says, setting_at, pings_at, echo_items, echoes_at, is_for}
use Rattle.m17_module.specs.Laws.{is_hello, is_bye}
use Rattle.m17_module.proofs.Mine.{ArePlaced, mine_at, mine_none, mine_all}
use Rattle.m17_module.proofs.Places.{filter-append}
use Rattle.m17_module.proofs.FramesMine.{placed, cond_same, seat_of_some}
use Rattle.m17_module.proofs.SeatsMore.{is_same_self, same_from_is_same, length_seats}

abbrev pub hellos : List Item → List Item
hellos xs = filter (λ item. is_hello item.body) xs

abbrev pub byes : List Item → List Item
byes xs = filter (λ item. is_bye item.body) xs

abbrev pub mine : Member → List Item → List Item
mine k xs = filter (is_for k) xs

-- What a position gives to a member that is in: what is neither Hello nor Bye, and then a Bye at most.
pub record IsPart (part : List Item) (stays : Bool) : Type 0 where
  pub quiet : List Item
  pub tail : List Item
  pub part_is : part ≡ quiet ++ tail
  pub no_hello : hellos quiet ≡ []
  pub no_bye : byes quiet ≡ []
  pub no_late_hello : hellos tail ≡ []
  pub at_most_one : length tail ≤ 1
  pub stays_quiet : stays ≡ true → tail ≡ []

-- a quiet saying
pub quiet_one : (what : Said) (o : Option Seat) → is_hello what ≡ false → hellos (to_one what o) ≡ []
quiet_one what None e = refl
quiet_one what (Some seat) e = cond-false (is_hello what) _ _ e

pub no_bye_one : (what : Said) (o : Option Seat) → is_bye what ≡ false → byes (to_one what o) ≡ []
no_bye_one what None e = refl
no_bye_one what (Some seat) e = cond-false (is_bye what) _ _ e

pub length_one : (what : Said) (o : Option Seat) → length (to_one what o) ≤ 1
length_one what None = omega arith
length_one what (Some seat) = omega arith

-- what is said to one, for the member
pub mine_one : (what : Said) (k : Member) (o : Option Seat) → mine k (to_one what o) ≡ to_one what (if_of k o)
mine_one what k None = refl
mine_one what k (Some seat) = elim (is_same seat.member k) as (λ b. cond b (item_to what seat ∷ []) [] ≡ to_one what (cond b (Some seat) None)) [ true ↦ refl | false ↦ refl ]

pub quiet_part : (what : Said) (o : Option Seat) (stays : Bool) → is_hello what ≡ false → is_bye what ≡ false → IsPart (to_one what o) stays
quiet_part what o stays h b = record {
  quiet = to_one what o;
  tail = [];
  part_is = sym (append-nil (to_one what o));
  no_hello = quiet_one what o h;
  no_bye = no_bye_one what o b;
  no_late_hello = refl;
  at_most_one = omega arith;
  stays_quiet = λ _. refl;
}

pub bye_part : (why : Why) (o : Option Seat) (stays : Bool) → (stays ≡ true → o ≡ None) → IsPart (to_one (said.Bye why) o) stays
bye_part why o stays gone = record {
  quiet = [];
  tail = to_one (said.Bye why) o;
  part_is = refl;
  no_hello = refl;
  no_bye = refl;
  no_late_hello = quiet_one (said.Bye why) o refl;
  at_most_one = length_one (said.Bye why) o;
  stays_quiet = λ e. ap (to_one (said.Bye why)) (gone e);
}

pub empty_part : (stays : Bool) → IsPart [] stays
empty_part stays = record { quiet = []; tail = []; part_is = refl; no_hello = refl; no_bye = refl; no_late_hello = refl; at_most_one = omega arith; stays_quiet = λ _. refl }

-- anything quiet before it
pub quiet_before : (front rest : List Item) (stays : Bool) → hellos front ≡ [] → byes front ≡ [] → IsPart rest stays → IsPart (front ++ rest) stays
quiet_before front rest stays h b p = record {
  quiet = front ++ p.quiet;
  tail = p.tail;
  part_is = ap (λ xs. front ++ xs) p.part_is ∙ sym (append_assoc front p.quiet p.tail);
  no_hello = filter-append (λ item. is_hello item.body) front p.quiet ∙ ap (λ xs. xs ++ hellos p.quiet) h ∙ p.no_hello;
  no_bye = filter-append (λ item. is_bye item.body) front p.quiet ∙ ap (λ xs. xs ++ byes p.quiet) b ∙ p.no_bye;
  no_late_hello = p.no_late_hello;
  at_most_one = p.at_most_one;
  stays_quiet = p.stays_quiet;
}

-- Pings before it
pub pinged_part : (o : Option Seat) (b : Bool) (rest : List Item) (stays : Bool) → IsPart rest stays → IsPart (cond b (to_one said.Ping o) [] ++ rest) stays
pinged_part o false rest stays p = p
pinged_part o true rest stays p = quiet_before (to_one said.Ping o) rest stays (quiet_one said.Ping o refl) (no_bye_one said.Ping o refl) p

-- the pings of a position, for the member
pub mine_cond : (k : Member) (b : Bool) (xs ys : List Item) → mine k xs ≡ ys → mine k (cond b xs []) ≡ cond b ys []
mine_cond k true xs ys e = e
mine_cond k false xs ys e = refl

pub mine_pings : (places : ℕ) (events : List Event) (n : ℕ) (k : Member) → mine k (pings_at places events n) ≡ cond (nat_lt (moment_before (acts_of events) n / ping_every_ms) (moment_at (acts_of events) n / ping_every_ms)) (to_one said.Ping (seat_of (seats_at places events n) k)) []
unfolding pings_at
mine_pings places events n k =
    mine_cond k (nat_lt (moment_before (acts_of events) n / ping_every_ms) (moment_at (acts_of events) n / ping_every_ms)) (map (item_to said.Ping) (members_of (seats_at places events n))) _
    (mine_at said.Ping k 0 (seats_at places events n) k.place (omega arith) (placed places events n))

-- what a Join says, for the member
pub mine_greets : (k : Member) (seats : List (Option Seat)) (seat : Seat) (after : ℕ) → is_same seat.member k ≡ false → mine k (greets seats seat after) ≡ cond (nat_lt seat.member.place (length seats)) (to_one (said.Bye Replaced) (if_of k (seat_in seats seat.member.place))) []
mine_greets k seats seat after other =
    mine_cond k (nat_lt seat.member.place (length seats)) (to_one (said.Bye Replaced) (seat_in seats seat.member.place) ++ item_to (said.Hello after) seat ∷ []) _
    (filter-append (is_for k) (to_one (said.Bye Replaced) (seat_in seats seat.member.place)) (item_to (said.Hello after) seat ∷ [])
    ∙ ap (λ xs. mine k (to_one (said.Bye Replaced) (seat_in seats seat.member.place)) ++ xs) (cond-false (is_same seat.member k) (item_to (said.Hello after) seat ∷ []) [] other)
    ∙ append-nil (mine k (to_one (said.Bye Replaced) (seat_in seats seat.member.place)))
    ∙ mine_one (said.Bye Replaced) k (seat_in seats seat.member.place))

-- a member's own Join
pub own_greets : (k : Member) (seats : List (Option Seat)) (seat : Seat) (after : ℕ) → seat.member ≡ k → k.place < length seats → seat_of seats k ≡ None → mine k (greets seats seat after) ≡ item_to (said.Hello after) seat ∷ []
own_greets k seats seat after is below free =
    let old : List Item = to_one (said.Bye Replaced) (seat_in seats seat.member.place) in
    let here : seat.member.place < length seats = subst (λ (m : Member). m.place < length seats) (sym is) below in
    ap (mine k) (cond-true (nat_lt seat.member.place (length seats)) (old ++ item_to (said.Hello after) seat ∷ []) [] (lt-ltb seat.member.place (length seats) here))
    ∙ filter-append (is_for k) old (item_to (said.Hello after) seat ∷ [])
    ∙ ap (λ xs. xs ++ mine k (item_to (said.Hello after) seat ∷ [])) (mine_one (said.Bye Replaced) k (seat_in seats seat.member.place) ∙ ap (to_one (said.Bye Replaced)) (ap (λ (m : Member). if_of k (seat_in seats m.place)) is ∙ free))
    ∙ cond-true (is_same seat.member k) (item_to (said.Hello after) seat ∷ []) [] (ap (λ m. is_same m k) is ∙ is_same_self k)

-- a packet, for the member
pub relay_cases : (k m : Member) (n : ℕ) (p : StreamPacket) (same : Bool) (places : ℕ) (events : List Event) → is_same m k ≡ same → mine k (map (item_to (said.Frame n p)) (others_than m (seats_at places events n))) ≡ to_one (said.Frame n p) (cond (not same) (seat_of (seats_at places events n) k) None)
relay_cases k m n p true places events e =
    ap (λ x. mine k (map (item_to (said.Frame n p)) (others_than x (seats_at places events n)))) (same_from_is_same m k e)
    ∙ mine_none (said.Frame n p) k (members_of (seats_at places events n))
relay_cases k m n p false places events e =
    mine_all (said.Frame n p) k m (members_of (seats_at places events n)) e
    ∙ mine_at (said.Frame n p) k 0 (seats_at places events n) k.place (omega arith) (placed places events n)

pub mine_relay : (k m : Member) (n : ℕ) (p : StreamPacket) (admitted : Bool) (places : ℕ) (events : List Event) → mine k (cond admitted (map (item_to (said.Frame n p)) (others_than m (seats_at places events n))) []) ≡ to_one (said.Frame n p) (cond (admitted && not (is_same m k)) (seat_of (seats_at places events n) k) None)
mine_relay k m n p false places events = refl
mine_relay k m n p true places events = relay_cases k m n p (is_same m k) places events refl

-- the member is at its own place alone
pub other_cases : (k : Member) (seats : List (Option Seat)) (q : ℕ) (seat : Seat) (same : Bool) → ArePlaced 0 seats → get_or seats q None ≡ Some seat → (k.place ≢ q) ⊎ (seat_of seats k ≡ None) → is_same seat.member k ≡ same → cond same (Some seat) None ≡ None
other_cases k seats q seat false placed e h is = refl
other_cases k seats q seat true placed e h is =
    let at : seat.member.place ≡ 0 + q = placed q seat e in
    let me : seat.member ≡ k = same_from_is_same seat.member k is in
    let here : k.place ≡ q = sym (ap (λ (m : Member). m.place) me) ∙ at ∙ (let z : 0 + q ≡ q = omega arith in z) in
    elim h [
      | inl ne ↦ absurd (ne here)
      | inr free ↦
          let found : seat_of seats k ≡ Some seat = seat_of_some k (get_or seats k.place None) seat (ap (λ p. get_or seats p None) here ∙ e) me in
          let never : None ≡ Some seat = sym free ∙ found in cc
    ]

pub other_seat : (k : Member) (seats : List (Option Seat)) (q : ℕ) (o : Option Seat) → ArePlaced 0 seats → get_or seats q None ≡ o → (k.place ≢ q) ⊎ (seat_of seats k ≡ None) → if_of k o ≡ None
other_seat k seats q None placed e h = refl
other_seat k seats q (Some seat) placed e h = other_cases k seats q seat (is_same seat.member k) placed e h refl

pub if_cases : (k m : Member) (seat : Seat) (b : Bool) → (is_same m k ≡ false) ⊎ (if_of k (Some seat) ≡ None) → is_same seat.member m ≡ b → if_of k (cond b (Some seat) None) ≡ None
if_cases k m seat false h e = refl
if_cases k m seat true h e =
    elim h [
      | inl other ↦ cond-false (is_same seat.member k) (Some seat) None (ap (λ x. is_same x k) (same_from_is_same seat.member m e) ∙ other)
      | inr gone ↦ gone
    ]

pub if_of_if : (k m : Member) (o : Option Seat) → (is_same m k ≡ false) ⊎ (if_of k o ≡ None) → if_of k (if_of m o) ≡ None
if_of_if k m None h = refl
if_of_if k m (Some seat) h = if_cases k m seat (is_same seat.member m) h refl

-- what the event says to a member that is in and does not join by it
pub greeted : (stays : Bool) (k m : Member) (b : Bool) (seats : List (Option Seat)) → ArePlaced 0 seats → (stays ≡ true → eqb m.place k.place ≡ false) → IsPart (cond b (to_one (said.Bye Replaced) (if_of k (seat_in seats m.place))) []) stays
greeted stays k m false seats placed unsettled = empty_part stays
greeted stays k m true seats placed unsettled =
    bye_part Replaced (if_of k (seat_in seats m.place)) stays
    (λ e. other_seat k seats m.place (get_or seats m.place None) placed refl (inl (λ same. true≢false (sym (eq-eqb m.place k.place (sym same)) ∙ unsettled e))))

pub said_part : (setup : Setup) (events : List Event) (n : ℕ) (k : Member) (link : ℕ) (stays : Bool) (body : Body) → is_join_of k (kind_of body) ≡ false → (stays ≡ true → settles k (kind_of body) ≡ false) → IsPart (mine k (says (setting_at setup events n link) body)) stays
said_part setup events n k link stays (Join m peer callsign l after) other unsettled =
    subst (λ xs. IsPart xs stays) (sym (mine_greets k (seats_at setup.places events n) (record { member = m; link = link; peer = peer; listens = l }) after other))
    (greeted stays k m (nat_lt m.place (length (seats_at setup.places events n))) (seats_at setup.places events n) (placed setup.places events n) unsettled)
said_part setup events n k link stays (Leave m why) other unsettled =
    subst (λ xs. IsPart xs stays) (sym (mine_one (said.Bye why) k (seat_of (seats_at setup.places events n) m)))
    (bye_part why (if_of k (seat_of (seats_at setup.places events n) m)) stays (λ e. if_of_if k m (get_or (seats_at setup.places events n) m.place None) (inl (unsettled e))))
said_part setup events n k link stays (Packet m p) other unsettled =
    subst (λ xs. IsPart xs stays) (sym (mine_relay k m n p (admits (verdict_at (floor_setup setup) (acts_of events) n)) setup.places events))
    (quiet_part (said.Frame n p) _ stays refl refl)
said_part setup events n k link stays (Reply m control) other unsettled =
    subst (λ xs. IsPart xs stays) (sym (mine_one (said.Reply control) k (seat_of (seats_at setup.places events n) m)))
    (quiet_part (said.Reply control) _ stays refl refl)
said_part setup events n k link stays Tick other unsettled = empty_part stays
said_part setup events n k link stays Stop other unsettled = empty_part stays

-- what a position gives to a member that is not in, and does not join by it: nothing
pub none_same : (n : ℕ) (p : StreamPacket) (b : Bool) → to_one (said.Frame n p) (cond b None None) ≡ []
none_same n p true = refl
none_same n p false = refl

pub said_nothing : (setup : Setup) (events : List Event) (n : ℕ) (k : Member) (link : ℕ) (body : Body) → seat_of (seats_at setup.places events n) k ≡ None → is_join_of k (kind_of body) ≡ false → mine k (says (setting_at setup events n link) body) ≡ []
said_nothing setup events n k link (Join m peer callsign l after) free other =
    mine_greets k (seats_at setup.places events n) (record { member = m; link = link; peer = peer; listens = l }) after other
    ∙ ap (λ o. cond (nat_lt m.place (length (seats_at setup.places events n))) (to_one (said.Bye Replaced) o) []) (other_seat k (seats_at setup.places events n) m.place (get_or (seats_at setup.places events n) m.place None) (placed setup.places events n) refl (inr free))
    ∙ cond_same (nat_lt m.place (length (seats_at setup.places events n)))
said_nothing setup events n k link (Leave m why) free other =
    mine_one (said.Bye why) k (seat_of (seats_at setup.places events n) m)
    ∙ ap (to_one (said.Bye why)) (if_of_if k m (get_or (seats_at setup.places events n) m.place None) (inr (other_seat k (seats_at setup.places events n) m.place (get_or (seats_at setup.places events n) m.place None) (placed setup.places events n) refl (inr free))))
said_nothing setup events n k link (Packet m p) free other =
    mine_relay k m n p (admits (verdict_at (floor_setup setup) (acts_of events) n)) setup.places events
    ∙ ap (λ o. to_one (said.Frame n p) (cond (admits (verdict_at (floor_setup setup) (acts_of events) n) && not (is_same m k)) o None)) free
    ∙ none_same n p (admits (verdict_at (floor_setup setup) (acts_of events) n) && not (is_same m k))
said_nothing setup events n k link (Reply m control) free other =
    mine_one (said.Reply control) k (seat_of (seats_at setup.places events n) m)
    ∙ ap (to_one (said.Reply control)) (if_of_if k m (get_or (seats_at setup.places events n) m.place None) (inr (other_seat k (seats_at setup.places events n) m.place (get_or (seats_at setup.places events n) m.place None) (placed setup.places events n) refl (inr free))))
said_nothing setup events n k link Tick free other = refl
said_nothing setup events n k link Stop free other = refl

-- its own Join gives it the Hello
pub said_hello : (setup : Setup) (events : List Event) (n : ℕ) (k : Member) (link : ℕ) (body : Body) → seat_of (seats_at setup.places events n) k ≡ None → k.place < setup.places → is_join_of k (kind_of body) ≡ true → (hello : Item) × (is_hello hello.body ≡ true) × (mine k (says (setting_at setup events n link) body) ≡ hello ∷ [])
said_hello setup events n k link (Join m peer callsign l after) free below is =
    let seat : Seat = record { member = m; link = link; peer = peer; listens = l } in
    (item_to (said.Hello after) seat, refl, own_greets k (seats_at setup.places events n) seat after (same_from_is_same m k is) (omega (arith, length_seats setup.places events n)) free)
said_hello setup events n k link (Leave m why) free below is = cc
said_hello setup events n k link (Packet m p) free below is = cc
said_hello setup events n k link (Reply m control) free below is = cc
said_hello setup events n k link Tick free below is = cc
said_hello setup events n k link Stop free below is = cc

-- an echo for the member is neither Hello nor Bye, and it is in
abbrev echo_of : Member → ℕ → List (Option Seat) → Bool → Option (Member × StreamPacket) → List Item
echo_of k n seats b echo = mine k (cond b (echo_items n seats echo) [])

echo_hellos : (k : Member) (n : ℕ) (seats : List (Option Seat)) (b : Bool) (echo : Option (Member × StreamPacket)) → hellos (echo_of k n seats b echo) ≡ []
echo_hellos k n seats false echo = refl
echo_hellos k n seats true None = refl
echo_hellos k n seats true (Some e) = ap hellos (mine_one (said.Echo n e.1) k (seat_of seats e.0)) ∙ quiet_one (said.Echo n e.1) (if_of k (seat_of seats e.0)) refl

echo_byes : (k : Member) (n : ℕ) (seats : List (Option Seat)) (b : Bool) (echo : Option (Member × StreamPacket)) → byes (echo_of k n seats b echo) ≡ []
echo_byes k n seats false echo = refl
echo_byes k n seats true None = refl
echo_byes k n seats true (Some e) = ap byes (mine_one (said.Echo n e.1) k (seat_of seats e.0)) ∙ no_bye_one (said.Echo n e.1) (if_of k (seat_of seats e.0)) refl

echo_away : (k : Member) (places : ℕ) (events : List Event) (n : ℕ) (b : Bool) (echo : Option (Member × StreamPacket)) → seat_of (seats_at places events n) k ≡ None → echo_of k n (seats_at places events n) b echo ≡ []
echo_away k places events n false echo free = refl
echo_away k places events n true None free = refl
echo_away k places events n true (Some e) free =
    mine_one (said.Echo n e.1) k (seat_of (seats_at places events n) e.0)
    ∙ ap (to_one (said.Echo n e.1)) (if_of_if k e.0 (get_or (seats_at places events n) e.0.place None) (inr (other_seat k (seats_at places events n) e.0.place (get_or (seats_at places events n) e.0.place None) (placed places events n) refl (inr free))))

pub no_echo_hello : (setup : Setup) (events : List Event) (n : ℕ) (k : Member) → hellos (mine k (echoes_at setup events n)) ≡ []
unfolding echoes_at
no_echo_hello setup events n k = echo_hellos k n (seats_at setup.places events n) setup.parrot (echo_at setup (acts_of events) n)

pub no_echo_bye : (setup : Setup) (events : List Event) (n : ℕ) (k : Member) → byes (mine k (echoes_at setup events n)) ≡ []
unfolding echoes_at
no_echo_bye setup events n k = echo_byes k n (seats_at setup.places events n) setup.parrot (echo_at setup (acts_of events) n)

pub no_echo_away : (setup : Setup) (events : List Event) (n : ℕ) (k : Member) → seat_of (seats_at setup.places events n) k ≡ None → mine k (echoes_at setup events n) ≡ []
unfolding echoes_at
no_echo_away setup events n k free = echo_away k setup.places events n setup.parrot (echo_at setup (acts_of events) n) free
