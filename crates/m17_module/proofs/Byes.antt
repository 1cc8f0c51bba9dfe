-- Who is in and is settled at a position is told a Bye there.
use Rattle.std.proofs.Common.{◌≡◌, ℕ, suc, ◌<◌, true, List, [], ◌∷◌, ◌++◌, length, slice_get, nat_lt, is_some, Option, None, Some, refl, ap, sym, ◌∙◌, subst, arith}
use Rattle.std.proofs.lemmas.Bool.{cond-true, eqb-true, lt-ltb}
use Rattle.std.proofs.lemmas.Option.{cond_some}
use Rattle.m17_values.specs.declared.member.Member.{Member}
use Rattle.m17_control.specs.declared.event.Body.{Body}
use Rattle.m17_control.specs.declared.event.Body.TheVariants.{Join, Leave, Packet, Reply, Tick, Stop}
use Rattle.m17_control.specs.declared.event.Event.{Event}
use Rattle.m17_control.specs.declared.event.Why.TheVariants.{Replaced}
use Rattle.m17_control.specs.declared.item.Item.{Item}
use Rattle.m17_control.specs.declared.item.Said.TheVariants as said
use Rattle.m17_floor.specs.Acts.{is_same, settles, joined_at}
use Rattle.m17_module.specs.Setup.{Setup}
use Rattle.m17_module.specs.declared.seat.Seat.{Seat}
use Rattle.m17_module.specs.Events.{kind_of, acts_of}
use Rattle.m17_module.specs.Seats.{seats_at, seat_in, if_of, seat_of}
use Rattle.m17_module.specs.Items.{item_to, to_one, says, setting_at, pings_at, echoes_at, said_by, said_at, items_at}
use Rattle.m17_module.specs.Laws.{is_bye, HasBye, WhoIsSettledIsToldABye}
use Rattle.m17_module.proofs.Acts.{kind_from, kind_at_is}
use Rattle.m17_module.proofs.Between.{in_from_join_to_end}
use Rattle.m17_module.proofs.FramesMine.{is_in_exactly}
use Rattle.m17_module.proofs.SeatsMore.{same_from_is_same, length_seats}

some_of : {X : Type 0} (o : Option X) → is_some o ≡ true → (x : X) × (o ≡ Some x)
some_of None e = absurd cc
some_of (Some x) e = (x, refl)

-- the member's seat stands at its place
seat_found : (k : Member) (o : Option Seat) (seat : Seat) → if_of k o ≡ Some seat → (o ≡ Some seat) × (seat.member ≡ k)
seat_found k None seat e = absurd cc
seat_found k (Some s) seat e =
    let parts = cond_some (is_same s.member k) s seat e in
    (ap Some parts.1, ap (λ (x : Seat). x.member) (sym parts.1) ∙ same_from_is_same s.member k parts.0)

bye_first : (item : Item) (rest : List Item) (k : Member) → item.member ≡ k → is_bye item.body ≡ true → HasBye (item ∷ rest) k
bye_first item rest k to says = record { bye = item; there = (0, omega arith, refl); to_it = to; says_bye = says }

bye_behind : (xs ys : List Item) (k : Member) → HasBye ys k → HasBye (xs ++ ys) k
bye_behind [] ys k h = h
bye_behind (x ∷ xs) ys k h =
    let rest = bye_behind xs ys k h in
    let (i, within, is) = rest.there in record {
      bye = rest.bye;
      there = (suc i, omega arith, is);
      to_it = rest.to_it;
      says_bye = rest.says_bye;
    }

told_by : (setup : Setup) (events : List Event) (n : ℕ) (k : Member) (link : ℕ) (seat : Seat) (body : Body) → seat_in (seats_at setup.places events n) k.place ≡ Some seat → seat.member ≡ k → k.place < setup.places → settles k (kind_of body) ≡ true → HasBye (says (setting_at setup events n link) body) k
told_by setup events n k link seat (Join m peer callsign l after) is mine below e =
    let seats = seats_at setup.places events n in
    let new : Seat = record { member = m; link = link; peer = peer; listens = l } in
    let hello : List Item = item_to (said.Hello after) new ∷ [] in
    let same : m.place ≡ k.place = eqb-true m.place k.place e in
    let found : to_one (said.Bye Replaced) (seat_in seats m.place) ≡ item_to (said.Bye Replaced) seat ∷ [] =
    ap (λ q. to_one (said.Bye Replaced) (seat_in seats q)) same ∙ ap (to_one (said.Bye Replaced)) is in
    subst (λ (xs : List Item). HasBye xs k)
    (sym (cond-true (nat_lt m.place (length seats)) (to_one (said.Bye Replaced) (seat_in seats m.place) ++ hello) [] (lt-ltb m.place (length seats) (omega (arith, length_seats setup.places events n)))
    ∙ ap (λ (xs : List Item). xs ++ hello) found))
    (bye_first (item_to (said.Bye Replaced) seat) hello k mine refl)
told_by setup events n k link seat (Leave m why) is mine below e =
    let seats = seats_at setup.places events n in
    let found : seat_of seats m ≡ Some seat =
    ap (seat_of seats) (same_from_is_same m k e) ∙ ap (if_of k) is ∙ cond-true (is_same seat.member k) (Some seat) None (ap (λ x. is_same x k) mine ∙ sym (ap (λ x. is_same x k) (same_from_is_same m k e)) ∙ e) in
    subst (λ (xs : List Item). HasBye xs k) (sym (ap (to_one (said.Bye why)) found)) (bye_first (item_to (said.Bye why) seat) [] k mine refl)
told_by setup events n k link seat (Packet m p) is mine below e = absurd cc
told_by setup events n k link seat (Reply m control) is mine below e = absurd cc
told_by setup events n k link seat Tick is mine below e = absurd cc
told_by setup events n k link seat Stop is mine below e = absurd cc

told_said : (setup : Setup) (events : List Event) (n : ℕ) (k : Member) (seat : Seat) (o : Option Event) → seat_in (seats_at setup.places events n) k.place ≡ Some seat → seat.member ≡ k → k.place < setup.places → settles k (kind_from o) ≡ true → HasBye (said_by setup events n o) k
told_said setup events n k seat None is mine below e = absurd cc
told_said setup events n k seat (Some event) is mine below e = told_by setup events n k event.tag.link seat event.body is mine below e

pub settled_told : WhoIsSettledIsToldABye
unfolding items_at said_at
settled_told setup events k j n once is below less stays e =
    let places : ℕ = setup.places in
    let inside : is_some (joined_at places (acts_of events) k n) ≡ true = (in_from_join_to_end places events k j n once is below).1 (less, stays) in
    let here = some_of (seat_of (seats_at places events n) k) (sym (is_in_exactly places events n k) ∙ inside) in
    let found = seat_found k (seat_in (seats_at places events n) k.place) here.0 here.1 in
    bye_behind (pings_at places events n ++ echoes_at setup events n) (said_by setup events n (slice_get events n)) k
    (told_said setup events n k here.0 (slice_get events n) found.0 found.1 below (ap (settles k) (sym (kind_at_is events n)) ∙ e))
