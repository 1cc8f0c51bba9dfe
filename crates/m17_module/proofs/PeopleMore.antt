-- The people of a module go on standing for the events, one more at a time.
use Rattle.std.proofs.Common.{◌≡◌, ◌≢◌, ℕ, suc, ◌<◌, ◌≤◌, ◌⊎◌, Bool, true, false, List, [], ◌∷◌, ◌++◌, length, slice_get, slice_set, get_or, replicate, zero, Option, None, Some, refl, ap, sym, subst, ◌∙◌, arith, inl, inr}
use Rattle.std.proofs.lemmas.Bool.{cases_eq, ne_eqb, true≢false, cond-true}
use Rattle.std.proofs.lemmas.Option.{slice_get_within, get_or_from_slice_get, slice_get-get_or, same_Some}
use Rattle.std.proofs.lemmas.List.{get_or-set_other, get_or-set_same, length-set, get_or-replicate, length-replicate}
use Rattle.m17_values.specs.declared.member.Member.{Member}
use Rattle.m17_stream.specs.declared.packet.StreamPacket.{StreamPacket}
use Rattle.m17_control.specs.declared.event.Event.{Event}
use Rattle.m17_floor.specs.declared.act.Act.{Act}
use Rattle.m17_floor.specs.declared.act.ActKind.TheVariants as act
use Rattle.m17_floor.specs.declared.verdict.Verdict.{Verdict}
use Rattle.std.proofs.Common.{max, IsSome}
use Rattle.std.proofs.lemmas.Option.{slice_get_read, cond_some}
use Rattle.std.proofs.lemmas.Bool.{cases_lt}
use Rattle.std.proofs.lemmas.List.{get_or_past}
use Rattle.m17_control.specs.declared.event.Body.{Body}
use Rattle.m17_control.specs.declared.event.Body.TheVariants.{Join, Leave, Packet, Reply, Tick, Stop}
use Rattle.m17_floor.specs.declared.act.ActKind.{ActKind}
use Rattle.m17_floor.specs.declared.verdict.Verdict.TheVariants.{NotMember, ListenOnly}
use Rattle.m17_floor.specs.Floor.{verdict_at, listens}
use Rattle.m17_lookup.specs.Lookup.{last_below}
use Rattle.m17_floor.specs.Acts.{with_act, is_same, kind_at, moment_before, joined_at, IsMember}
use Rattle.m17_floor.specs.Rule.{Frame, FloorState}
use Rattle.m17_floor.specs.Laws.{LaterActsChangeNoMembership, UnheardPacketsChangeNothing, LeavesOfStrangersChangeNothing, JoinsPastThePlacesChangeNothing, OtherActsChangeNothing, StrangersGetNotMember, ListenersGetListenOnly, MembershipOfOneMore, LeavesLeaveOthers, JoinsLeaveOthers, joined_with}
use Rattle.m17_floor.specs.StandsFor.{FloorStandsFor, OwnStandsFor, KeepsStanding, MemberKeepsStanding, IsJudged, MaySpeak, join_act, leave_act, packet_act}
use Rattle.m17_module.specs.Setup.{Setup, floor_setup}
use Rattle.m17_module.specs.declared.seat.Seat.{Seat}
use Rattle.m17_module.specs.Events.{kind_of, act_of, acts_of}
use Rattle.m17_module.specs.Seats.{seat_joined, if_of, seat_of, seat_from, is_at, last_join, seat_at}
use Rattle.m17_module.specs.StandsFor.{People, PeopleStandFor}
use Rattle.m17_module.proofs.Acts.{acts_more, length_acts, kind_from, kind_at_is}
use Rattle.m17_module.proofs.Below.{length_more, slice_get_end, slice_get_before}
use Rattle.m17_module.proofs.SeatsMore.{IsIn, seat_is_in, joined_has_seat, joined_at_before, same_from_is_same, seat_same, seat_joins, seat_leaves, seat_kind_from, joined_new, length_seats, seats_at_is, seats_from, is_same_self, joined_below}

-- after a write at one place, what stands at a place is what was written, or what stood there at another place
set_cases : {X : Type 0} (xs : List X) (at : ℕ) (y : X) (t : ℕ) (x : X) → at < length xs → slice_get (slice_set xs at y) t ≡ Some x → ((t ≡ at) × (x ≡ y)) ⊎ ((t ≢ at) × (slice_get xs t ≡ Some x))
set_cases xs at y t x within e =
    let inside : t < length (slice_set xs at y) = slice_get_within (slice_set xs at y) t x e in
    let found = sym (get_or_from_slice_get (slice_set xs at y) t x x e) in
    elim (cases_eq t at) [
      | inl same ↦ inl (same, found ∙ ap (λ (k : ℕ). get_or (slice_set xs at y) k x) same ∙ get_or-set_same xs at y x within)
      | inr other ↦ inr (other, slice_get-get_or xs t x (omega (arith, length-set xs at y)) ∙ ap Some (sym (get_or-set_other xs at t y x other) ∙ sym found))
    ]

-- the events with one more, and its end
abbrev with_event : List Event → Event → List Event
with_event events event = events ++ event ∷ []

length_event : (events : List Event) (event : Event) → length (with_event events event) ≡ suc (length events)
length_event events event = length_more events event

-- who is in is as before, in the words of events
joined_kept : (places : ℕ) (events : List Event) (event : Event) (k : Member) → joined_at places (with_act (acts_of events) (act_of event)) k (length (with_act (acts_of events) (act_of event))) ≡ joined_at places (acts_of events) k (length (acts_of events)) → joined_at places (acts_of (with_event events event)) k (suc (length events)) ≡ joined_at places (acts_of events) k (length events)
joined_kept places events event k e =
    let len : length (with_act (acts_of events) (act_of event)) ≡ suc (length events) = length_more (acts_of events) (act_of event) ∙ ap suc (length_acts events) in
    ap (λ acts. joined_at places acts k (suc (length events))) (acts_more events event)
    ∙ ap (joined_at places (with_act (acts_of events) (act_of event)) k) (sym len)
    ∙ e
    ∙ ap (joined_at places (acts_of events) k) (length_acts events)

-- the seat in the list that stands for the events
pub seat_there : (setup : Setup) (people : People) (events : List Event) (q : ℕ) → PeopleStandFor setup people events → q < setup.places → get_or people.seats q None ≡ seat_at setup.places events (length events) q
seat_there setup people events q stands h = ap (λ seats. get_or seats q None) stands.seats ∙ seats_at_is setup.places events (length events) q h

pub length_there : (setup : Setup) (people : People) (events : List Event) → PeopleStandFor setup people events → length people.seats ≡ setup.places
length_there setup people events stands = ap length stands.seats ∙ length_seats setup.places events (length events)

seat_found : (setup : Setup) (people : People) (events : List Event) (q : ℕ) (seat : Seat) → PeopleStandFor setup people events → slice_get people.seats q ≡ Some (Some seat) → IsIn setup.places events (length events) q seat
seat_found setup people events q seat stands e =
    let inside : q < length people.seats = slice_get_within people.seats q (Some seat) e in
    let here : get_or people.seats q None ≡ Some seat = get_or_from_slice_get people.seats q (Some seat) None e in
    seat_is_in setup.places events (length events) q seat (sym (seat_there setup people events q stands (omega (arith, length_there setup people events stands))) ∙ here)

-- An event that changes nobody's membership and nothing of the floor.
pub kept_people : (setup : Setup) (people : People) (events : List Event) (event : Event) → ((q : ℕ) → q < setup.places → is_at q (seat_from (Some event)) ≡ false) → KeepsStanding (floor_setup setup) (acts_of events) (with_act (acts_of events) (act_of event)) → PeopleStandFor setup people events → PeopleStandFor setup people (with_event events event)
kept_people setup people events event nobody keeps stands =
    let longer : List Event = with_event events event in
    record {
      seats = ap (λ (s : List (Option Seat)). s) (seats_from setup.places longer (length longer) people.seats (length_there setup people events stands)
          (λ q h. seat_there setup people events q stands h
          ∙ sym (seat_same setup.places events event q (nobody q h) (λ seat at. joined_kept setup.places events event seat.member (keeps.joined seat.member)))
          ∙ ap (λ n. seat_at setup.places longer n q) (sym (length_event events event))));
      lasts = λ place seat last is there. subst (λ acts. OwnStandsFor (floor_setup setup) acts seat.member last) (sym (acts_more events event)) (keeps.own seat.member last (stands.lasts place seat last is there));
      floor = subst (λ acts. FloorStandsFor (floor_setup setup) acts people.floor) (sym (acts_more events event)) (keeps.floor people.floor stands.floor);
    }

-- A packet of one that may speak was judged.
pub judged_people : (setup : Setup) (seats : List (Option Seat)) (lasts : List (Option Frame)) (before floor : FloorState) (own : Option Frame) (events : List Event) (event : Event) (seat : Seat) (verdict : Verdict) → seat.member.place < length lasts → get_or seats seat.member.place None ≡ Some seat → ((q : ℕ) → q < setup.places → is_at q (seat_from (Some event)) ≡ false) → IsJudged (floor_setup setup) (acts_of events) (act_of event) seat.member verdict floor own → PeopleStandFor setup (record { seats = seats; lasts = lasts; floor = before }) events → PeopleStandFor setup (record { seats = seats; lasts = slice_set lasts seat.member.place own; floor = floor }) (with_event events event)
judged_people setup seats lasts before floor own events event seat verdict within mine nobody judged stands =
    let longer : List Event = with_event events event in
    let people : People = record { seats = seats; lasts = lasts; floor = before } in
    record {
      seats = seats_from setup.places longer (length longer) seats (length_there setup people events stands)
          (λ q h. seat_there setup people events q stands h
          ∙ sym (seat_same setup.places events event q (nobody q h) (λ s at. joined_kept setup.places events event s.member (judged.joined s.member)))
          ∙ ap (λ n. seat_at setup.places longer n q) (sym (length_event events event)));
      lasts = λ place other last is there.
          subst (λ acts. OwnStandsFor (floor_setup setup) acts other.member last) (sym (acts_more events event))
          (elim (set_cases lasts seat.member.place own place last within there) [
            | inl here ↦
                let same : other ≡ seat = same_Some other seat (sym (get_or_from_slice_get seats place (Some other) None is) ∙ ap (λ p. get_or seats p None) here.0 ∙ mine) in
                subst (λ (s : Seat). OwnStandsFor (floor_setup setup) (with_act (acts_of events) (act_of event)) s.member last) (sym same) (here.1 ∙ judged.own_stands)
            | inr elsewhere ↦
                judged.others_stand other.member last (λ same. elsewhere.0 (sym (seat_found setup people events place other stands is).place ∙ ap (λ (m : Member). m.place) same)) (stands.lasts place other last is elsewhere.1)
          ]);
      floor = subst (λ acts. FloorStandsFor (floor_setup setup) acts floor) (sym (acts_more events event)) judged.floor_stands;
    }

act_is : (event : Event) (k : Member) (l : Bool) → kind_of event.body ≡ act.Join k l → act_of event ≡ join_act event.at k l
act_is event k l e = let make : _ → Act = λ kind. record { at = event.at; kind = kind } in ap make e

-- A member comes in at a place, whoever was there before.
pub joined_people : MembershipOfOneMore → JoinsLeaveOthers → (setup : Setup) (seats : List (Option Seat)) (lasts : List (Option Frame)) (before floor : FloorState) (own : Option Frame) (events : List Event) (event : Event) (seat : Seat) → seat_from (Some event) ≡ Some seat → seat.member.place < length seats → length lasts ≡ length seats → FloorStandsFor (floor_setup setup) (with_act (acts_of events) (join_act event.at seat.member seat.listens)) floor → OwnStandsFor (floor_setup setup) (with_act (acts_of events) (join_act event.at seat.member seat.listens)) seat.member own → PeopleStandFor setup (record { seats = seats; lasts = lasts; floor = before }) events → PeopleStandFor setup (record { seats = slice_set seats seat.member.place (Some seat); lasts = slice_set lasts seat.member.place own; floor = floor }) (with_event events event)
joined_people membership others setup seats lasts before floor own events event seat is within each floor_stands own_stands stands =
    let longer : List Event = with_event events event in
    let people : People = record { seats = seats; lasts = lasts; floor = before } in
    let k : Member = seat.member in
    let kind : act_of event ≡ join_act event.at k seat.listens = act_is event k seat.listens (seat_kind_from (Some event) seat is) in
    let acts : acts_of longer ≡ with_act (acts_of events) (join_act event.at k seat.listens) = acts_more events event ∙ ap (with_act (acts_of events)) kind in
    let size : length seats ≡ setup.places = length_there setup people events stands in
    let kept : (m : Member) → m.place ≢ k.place → MemberKeepsStanding (floor_setup setup) (acts_of events) (with_act (acts_of events) (act_of event)) m =
    λ m ne. subst (λ x. MemberKeepsStanding (floor_setup setup) (acts_of events) (with_act (acts_of events) x) m) (sym kind) (others (floor_setup setup) (acts_of events) event.at k seat.listens m ne) in
    record {
      seats = seats_from setup.places longer (length longer) (slice_set seats k.place (Some seat)) (length-set seats k.place (Some seat) ∙ size)
          (λ q h. elim (cases_eq q k.place) [
            | inl here ↦
                ap (λ p. get_or (slice_set seats k.place (Some seat)) p None) here
                ∙ get_or-set_same seats k.place (Some seat) None within
                ∙ sym (seat_joins membership setup.places events event seat is (omega arith))
                ∙ ap (λ p. seat_at setup.places longer (suc (length events)) p) (sym here)
                ∙ ap (λ n. seat_at setup.places longer n q) (sym (length_event events event))
            | inr elsewhere ↦
                get_or-set_other seats k.place q (Some seat) None elsewhere
                ∙ seat_there setup people events q stands h
                ∙ sym (seat_same setup.places events event q (ap (is_at q) is ∙ ne_eqb k.place q (λ same. elsewhere (sym same)))
                (λ s at. joined_kept setup.places events event s.member (kept s.member (λ same. elsewhere (sym at ∙ same))).joined))
                ∙ ap (λ n. seat_at setup.places longer n q) (sym (length_event events event))
          ]);
      lasts = λ place other last there last_there.
          elim (set_cases seats k.place (Some seat) place (Some other) within there) [
            | inl here ↦
                elim (set_cases lasts k.place own place last (omega arith) last_there) [
                  | inl now ↦
                      let same : other ≡ seat = same_Some other seat here.1 in
                      subst (λ a. OwnStandsFor (floor_setup setup) a other.member last) (sym acts)
                      (subst (λ (s : Seat). OwnStandsFor (floor_setup setup) (with_act (acts_of events) (join_act event.at k seat.listens)) s.member last) (sym same) (now.1 ∙ own_stands))
                  | inr not_now ↦ absurd (not_now.0 here.0)
                ]
            | inr elsewhere ↦
                elim (set_cases lasts k.place own place last (omega arith) last_there) [
                  | inl now ↦ absurd (elsewhere.0 now.0)
                  | inr not_now ↦
                      subst (λ a. OwnStandsFor (floor_setup setup) a other.member last) (sym (acts_more events event))
                      ((kept other.member (λ same. elsewhere.0 (sym (seat_found setup people events place other stands elsewhere.1).place ∙ same))).own last (stands.lasts place other last elsewhere.1 not_now.1))
                ]
          ];
      floor = subst (λ a. FloorStandsFor (floor_setup setup) a floor) (sym acts) floor_stands;
    }

leave_is : (event : Event) (k : Member) → kind_of event.body ≡ act.Leave k → act_of event ≡ leave_act event.at k
leave_is event k e = let make : _ → Act = λ kind. record { at = event.at; kind = kind } in ap make e

gone_with : (places : ℕ) (acts : List Act) (at : ℕ) (k : Member) → joined_with places acts (leave_act at k) k ≡ None
gone_with places acts at k = cond-true _ _ (joined_at places acts k (length acts)) (is_same_self k)

-- A member that is in leaves.
pub left_people : MembershipOfOneMore → LeavesLeaveOthers → (setup : Setup) (seats : List (Option Seat)) (lasts : List (Option Frame)) (before floor : FloorState) (events : List Event) (event : Event) (seat : Seat) → kind_of event.body ≡ act.Leave seat.member → ((q : ℕ) → is_at q (seat_from (Some event)) ≡ false) → seat.member.place < length seats → get_or seats seat.member.place None ≡ Some seat → FloorStandsFor (floor_setup setup) (with_act (acts_of events) (leave_act event.at seat.member)) floor → PeopleStandFor setup (record { seats = seats; lasts = lasts; floor = before }) events → PeopleStandFor setup (record { seats = slice_set seats seat.member.place None; lasts = lasts; floor = floor }) (with_event events event)
left_people membership others setup seats lasts before floor events event seat is nobody within mine floor_stands stands =
    let longer : List Event = with_event events event in
    let people : People = record { seats = seats; lasts = lasts; floor = before } in
    let k : Member = seat.member in
    let kind : act_of event ≡ leave_act event.at k = leave_is event k is in
    let size : length seats ≡ setup.places = length_there setup people events stands in
    let kept : (m : Member) → m ≢ k → MemberKeepsStanding (floor_setup setup) (acts_of events) (with_act (acts_of events) (act_of event)) m =
    λ m ne. subst (λ x. MemberKeepsStanding (floor_setup setup) (acts_of events) (with_act (acts_of events) x) m) (sym kind) (others (floor_setup setup) (acts_of events) event.at k m ne) in
    let gone : joined_at setup.places (acts_of longer) k (suc (length events)) ≡ None =
    joined_new membership setup.places events event k ∙ ap (λ x. joined_with setup.places (acts_of events) x k) kind ∙ gone_with setup.places (acts_of events) event.at k in
    record {
      seats = seats_from setup.places longer (length longer) (slice_set seats k.place None) (length-set seats k.place None ∙ size)
          (λ q h. elim (cases_eq q k.place) [
            | inl here ↦
                ap (λ p. get_or (slice_set seats k.place None) p None) here
                ∙ get_or-set_same seats k.place None None within
                ∙ sym (seat_leaves setup.places events event seat k.place (sym (seat_there setup people events k.place stands (omega arith)) ∙ mine) (nobody k.place) gone)
                ∙ ap (λ p. seat_at setup.places longer (suc (length events)) p) (sym here)
                ∙ ap (λ n. seat_at setup.places longer n q) (sym (length_event events event))
            | inr elsewhere ↦
                get_or-set_other seats k.place q None None elsewhere
                ∙ seat_there setup people events q stands h
                ∙ sym (seat_same setup.places events event q (nobody q) (λ s at. joined_kept setup.places events event s.member (kept s.member (λ same. elsewhere (sym at ∙ ap (λ (m : Member). m.place) same))).joined))
                ∙ ap (λ n. seat_at setup.places longer n q) (sym (length_event events event))
          ]);
      lasts = λ place other last there last_there.
          elim (set_cases seats k.place None place (Some other) within there) [
            | inl here ↦ let never : Some other ≡ None = here.1 in cc
            | inr elsewhere ↦
                subst (λ a. OwnStandsFor (floor_setup setup) a other.member last) (sym (acts_more events event))
                ((kept other.member (λ same. elsewhere.0 (sym (seat_found setup people events place other stands elsewhere.1).place ∙ ap (λ (m : Member). m.place) same))).own last (stands.lasts place other last elsewhere.1 last_there))
          ];
      floor = subst (λ a. FloorStandsFor (floor_setup setup) a floor) (sym (acts_more events event ∙ ap (with_act (acts_of events)) kind)) floor_stands;
    }

-- Of no events nobody is in.
seat_at_none : (places q : ℕ) → seat_at places [] 0 q ≡ None
unfolding seat_at last_join last_below
seat_at_none places q = refl

replicate_none : {X : Type 0} (n p : ℕ) (x : X) → slice_get (replicate n (let none : Option X = None in none)) p ≡ Some (Some x) → ⊥
replicate_none zero p x e = cc
replicate_none (suc n) zero x e = cc
replicate_none (suc n) (suc p) x e = replicate_none n p x e

pub nobody_stands : (setup : Setup) (seats : List (Option Seat)) (lasts : List (Option Frame)) (floor : FloorState) → seats ≡ replicate setup.places None → FloorStandsFor (floor_setup setup) [] floor → PeopleStandFor setup (record { seats = seats; lasts = lasts; floor = floor }) []
nobody_stands setup seats lasts floor is free = record {
  seats = is ∙ seats_from setup.places [] 0 (replicate setup.places None) (length-replicate setup.places None) (λ q h. get_or-replicate setup.places q None None h ∙ sym (seat_at_none setup.places q));
  lasts = λ place seat last there last_there. absurd (replicate_none setup.places place seat (ap (λ xs. slice_get xs place) (sym is) ∙ there));
  floor = free;
}

-- Only a Join brings anybody in.
nobody_leaves : (link : ℕ) (body : Body) (k : Member) (q : ℕ) → kind_of body ≡ act.Leave k → is_at q (seat_joined link body) ≡ false
nobody_leaves link (Join m peer callsign l after) k q e = cc
nobody_leaves link (Leave m why) k q e = refl
nobody_leaves link (Packet m p) k q e = refl
nobody_leaves link (Reply m control) k q e = refl
nobody_leaves link Tick k q e = refl
nobody_leaves link Stop k q e = refl

pub nobody_at_leave : (event : Event) (k : Member) → kind_of event.body ≡ act.Leave k → (q : ℕ) → is_at q (seat_from (Some event)) ≡ false
nobody_at_leave event k e q = nobody_leaves event.tag.link event.body k q e

nobody_sends : (link : ℕ) (body : Body) (k : Member) (p : StreamPacket) (q : ℕ) → kind_of body ≡ act.Packet k p → is_at q (seat_joined link body) ≡ false
nobody_sends link (Join m peer callsign l after) k p q e = cc
nobody_sends link (Leave m why) k p q e = refl
nobody_sends link (Packet m s) k p q e = refl
nobody_sends link (Reply m control) k p q e = refl
nobody_sends link Tick k p q e = refl
nobody_sends link Stop k p q e = refl

pub nobody_at_packet : (event : Event) (k : Member) (p : StreamPacket) → kind_of event.body ≡ act.Packet k p → (q : ℕ) → is_at q (seat_from (Some event)) ≡ false
nobody_at_packet event k p e q = nobody_sends event.tag.link event.body k p q e

nobody_others : (link : ℕ) (body : Body) (q : ℕ) → kind_of body ≡ act.Other → is_at q (seat_joined link body) ≡ false
nobody_others link (Join m peer callsign l after) q e = cc
nobody_others link (Leave m why) q e = refl
nobody_others link (Packet m s) q e = refl
nobody_others link (Reply m control) q e = refl
nobody_others link Tick q e = refl
nobody_others link Stop q e = refl

act_kind : (event : Event) (kind : ActKind) → kind_of event.body ≡ kind → act_of event ≡ record { at = event.at; kind = kind }
act_kind event kind e = let make : ActKind → Act = λ x. record { at = event.at; kind = x } in ap make e

-- where the list of seats has somebody, there is a place
pub place_there : (seats : List (Option Seat)) (q : ℕ) (seat : Seat) → get_or seats q None ≡ Some seat → q < length seats
place_there seats q seat e = elim (cases_lt q (length seats)) [
  | inl h ↦ h
  | inr h ↦ let past : get_or seats q None ≡ None = get_or_past seats q None h in let never : None ≡ Some seat = sym past ∙ e in cc
]

-- who is in by the list of seats is in by the events
pub in_by_seat : (setup : Setup) (people : People) (events : List Event) (q : ℕ) (seat : Seat) → PeopleStandFor setup people events → get_or people.seats q None ≡ Some seat → IsIn setup.places events (length events) q seat
in_by_seat setup people events q seat stands e =
    let h : q < length people.seats = place_there people.seats q seat e in
    seat_is_in setup.places events (length events) q seat (sym (seat_there setup people events q stands (omega (arith, length_there setup people events stands))) ∙ e)

joined_end : (places : ℕ) (people : People) (events : List Event) (q : ℕ) (seat : Seat) (at : IsIn places events (length events) q seat) → joined_at places (acts_of events) seat.member (length (acts_of events)) ≡ Some at.position
joined_end places people events q seat at = ap (joined_at places (acts_of events) seat.member) (length_acts events) ∙ at.joined

is_some_from : {X : Type 0} (o : Option X) (x : X) → o ≡ Some x → IsSome o
is_some_from None x e = cc
is_some_from (Some y) x e = refl

pub member_by_seat : (setup : Setup) (people : People) (events : List Event) (q : ℕ) (seat : Seat) → PeopleStandFor setup people events → get_or people.seats q None ≡ Some seat → IsMember setup.places (acts_of events) seat.member (length (acts_of events))
member_by_seat setup people events q seat stands e =
    let at = in_by_seat setup people events q seat stands e in
    is_some_from _ at.position (joined_end setup.places people events q seat at)

-- a member has its seat
none_from : {X : Type 0} (o : Option X) → ((x : X) → o ≡ Some x → ⊥) → o ≡ None
none_from None h = refl
none_from (Some x) h = absurd (h x refl)

has_at : (setup : Setup) (people : People) (events : List Event) (k : Member) (j : ℕ) → PeopleStandFor setup people events → joined_at setup.places (acts_of events) k (length (acts_of events)) ≡ Some j → (seat : Seat) × (get_or people.seats k.place None ≡ Some seat) × (seat.member ≡ k)
has_at setup people events k j stands e =
    let has = joined_has_seat setup.places events (length events) k j (ap (joined_at setup.places (acts_of events) k) (sym (length_acts events)) ∙ e) in
    (has.seat, seat_there setup people events k.place stands has.below ∙ has.is, has.mine)

-- nobody is in at a free place
pub nobody_in : (setup : Setup) (people : People) (events : List Event) (q : ℕ) → PeopleStandFor setup people events → get_or people.seats q None ≡ None → (k : Member) → k.place ≡ q → joined_at setup.places (acts_of events) k (length (acts_of events)) ≡ None
nobody_in setup people events q stands free k at =
    none_from _ (λ j e.
    let has = has_at setup people events k j stands e in
    let here : get_or people.seats k.place None ≡ None = ap (λ p. get_or people.seats p None) at ∙ free in
    let never : None ≡ Some has.0 = sym here ∙ has.1 in cc)

if_of_is : (k : Member) (o : Option Seat) (seat : Seat) → if_of k o ≡ Some seat → (o ≡ Some seat) × (seat.member ≡ k)
if_of_is k None seat e = cc
if_of_is k (Some s) seat e =
    let parts = cond_some (is_same s.member k) s seat e in
    (ap Some parts.1, ap (λ (x : Seat). x.member) (sym parts.1) ∙ same_from_is_same s.member k parts.0)

-- the seat of a member
pub seat_of_is : (seats : List (Option Seat)) (k : Member) (seat : Seat) → seat_of seats k ≡ Some seat → (get_or seats k.place None ≡ Some seat) × (seat.member ≡ k)
seat_of_is seats k seat e = if_of_is k (get_or seats k.place None) seat e

pub seat_of_in : (seats : List (Option Seat)) (k : Member) (seat : Seat) → seat_of seats k ≡ Some seat → get_or seats seat.member.place None ≡ Some seat
seat_of_in seats k seat e =
    let parts = seat_of_is seats k seat e in
    ap (λ (m : Member). get_or seats m.place None) parts.1 ∙ parts.0

pub not_in : (setup : Setup) (people : People) (events : List Event) (k : Member) → PeopleStandFor setup people events → seat_of people.seats k ≡ None → joined_at setup.places (acts_of events) k (length (acts_of events)) ≡ None
not_in setup people events k stands e =
    none_from _ (λ j joined.
    let has = has_at setup people events k j stands joined in
    let mine : is_same has.0.member k ≡ true = ap (λ m. is_same m k) has.2 ∙ is_same_self k in
    let found : seat_of people.seats k ≡ Some has.0 = ap (if_of k) has.1 ∙ cond-true (is_same has.0.member k) (Some has.0) None mine in
    let never : None ≡ Some has.0 = sym e ∙ found in cc)

-- A packet of one that may speak, by the floor's own clause.
pub judged_by_rule : (setup : Setup) (seats : List (Option Seat)) (lasts : List (Option Frame)) (before floor : FloorState) (own own' : Option Frame) (events : List Event) (event : Event) (seat : Seat) (p : StreamPacket) (verdict : Verdict) (at : ℕ)
    → ((acts : List Act) (moment : ℕ) → FloorStandsFor (floor_setup setup) acts before → OwnStandsFor (floor_setup setup) acts seat.member own → MaySpeak (floor_setup setup) acts seat.member → at ≡ max (moment_before acts (length acts)) moment → IsJudged (floor_setup setup) acts (packet_act moment seat.member p) seat.member verdict floor own')
    → length lasts ≡ length seats → own ≡ get_or lasts seat.member.place own → get_or seats seat.member.place None ≡ Some seat → seat.listens ≡ false
    → kind_of event.body ≡ act.Packet seat.member p → at ≡ max (moment_before (acts_of events) (length events)) event.at
    → PeopleStandFor setup (record { seats = seats; lasts = lasts; floor = before }) events
    → PeopleStandFor setup (record { seats = seats; lasts = slice_set lasts seat.member.place own'; floor = floor }) (events ++ event ∷ []) × (Some verdict ≡ verdict_at (floor_setup setup) (acts_of (events ++ event ∷ [])) (length events))
judged_by_rule setup seats lasts before floor own own' events event seat p verdict at rule each read mine speaks is moment stands =
    let people : People = record { seats = seats; lasts = lasts; floor = before } in
    let q : ℕ = seat.member.place in
    let inside : q < length seats = place_there seats q seat mine in
    let within : q < length lasts = omega arith in
    let in_at : IsIn setup.places events (length events) q seat = in_by_seat setup people events q seat stands mine in
    let there : slice_get seats q ≡ Some (Some seat) = slice_get-get_or seats q None inside ∙ ap Some mine in
    let kept : slice_get lasts q ≡ Some own = slice_get_read lasts (length lasts) q own refl within read in
    let now : at ≡ max (moment_before (acts_of events) (length (acts_of events))) event.at = moment ∙ ap (λ n. max (moment_before (acts_of events) n) event.at) (sym (length_acts events)) in
    let judged : IsJudged (floor_setup setup) (acts_of events) (packet_act event.at seat.member p) seat.member verdict floor own' =
    rule (acts_of events) event.at stands.floor (stands.lasts q seat own there kept) (in_at.position, joined_end setup.places people events q seat in_at, in_at.listening ∙ speaks) now in
    let same : act_of event ≡ packet_act event.at seat.member p = act_kind event (act.Packet seat.member p) is in
    let judged' : IsJudged (floor_setup setup) (acts_of events) (act_of event) seat.member verdict floor own' =
    subst (λ x. IsJudged (floor_setup setup) (acts_of events) x seat.member verdict floor own') (sym same) judged in (
      judged_people setup seats lasts before floor own' events event seat verdict within mine (λ r h. nobody_at_packet event seat.member p is r) judged' stands,
      sym (ap (λ acts. verdict_at (floor_setup setup) acts (length events)) (acts_more events event)
          ∙ ap (verdict_at (floor_setup setup) (with_act (acts_of events) (act_of event))) (sym (length_acts events))
          ∙ judged'.verdict_is),
    )

pub kind_end : (events : List Event) (event : Event) → kind_at (acts_of (events ++ event ∷ [])) (length events) ≡ kind_of event.body
kind_end events event = kind_at_is (events ++ event ∷ []) (length events) ∙ ap kind_from (slice_get_end events event)

joined_lt : (places : ℕ) (events : List Event) (k : Member) (j : ℕ) → joined_at places (acts_of events) k (length events) ≡ Some j → j < length events
joined_lt places events k j e = joined_below places events (length events) k j e

unheard : UnheardPacketsChangeNothing → (setup : Setup) (people : People) (events : List Event) (event : Event) (k : Member) (p : StreamPacket) → ¬ MaySpeak (floor_setup setup) (acts_of events) k → kind_of event.body ≡ act.Packet k p → PeopleStandFor setup people events → PeopleStandFor setup people (events ++ event ∷ [])
unheard law setup people events event k p silent is stands =
    kept_people setup people events event (λ q h. nobody_at_packet event k p is q)
    (subst (λ x. KeepsStanding (floor_setup setup) (acts_of events) (with_act (acts_of events) x)) (sym (act_kind event (act.Packet k p) is)) (law (floor_setup setup) (acts_of events) event.at k p silent)) stands

-- A packet of one that is no member, ..
pub stranger_people : UnheardPacketsChangeNothing → StrangersGetNotMember → LaterActsChangeNoMembership → (setup : Setup) (people : People) (events : List Event) (event : Event) (k : Member) (p : StreamPacket) → seat_of people.seats k ≡ None → kind_of event.body ≡ act.Packet k p → PeopleStandFor setup people events → PeopleStandFor setup people (events ++ event ∷ []) × (Some NotMember ≡ verdict_at (floor_setup setup) (acts_of (events ++ event ∷ [])) (length events))
stranger_people law verdict later setup people events event k p stranger is stands =
    let out : joined_at setup.places (acts_of events) k (length (acts_of events)) ≡ None = not_in setup people events k stands stranger in (
      unheard law setup people events event k p (λ speaks. let never : None ≡ Some speaks.0 = sym out ∙ speaks.1 in cc) is stands,
      sym (verdict (floor_setup setup) (acts_of (events ++ event ∷ [])) (length events) k p (kind_end events event ∙ is)
          (joined_at_before later setup.places events (event ∷ []) k (length events) (omega arith) ∙ ap (joined_at setup.places (acts_of events) k) (sym (length_acts events)) ∙ out)),
    )

-- .. and of one that joined to listen only.
pub listener_people : UnheardPacketsChangeNothing → ListenersGetListenOnly → LaterActsChangeNoMembership → (setup : Setup) (people : People) (events : List Event) (event : Event) (k : Member) (p : StreamPacket) (seat : Seat) → seat_of people.seats k ≡ Some seat → seat.listens ≡ true → kind_of event.body ≡ act.Packet k p → PeopleStandFor setup people events → PeopleStandFor setup people (events ++ event ∷ []) × (Some ListenOnly ≡ verdict_at (floor_setup setup) (acts_of (events ++ event ∷ [])) (length events))
listener_people law verdict later setup people events event k p seat mine only is stands =
    let parts = seat_of_is people.seats k seat mine in
    let at : IsIn setup.places events (length events) k.place seat = in_by_seat setup people events k.place seat stands parts.0 in
    let joined : joined_at setup.places (acts_of events) k (length events) ≡ Some at.position = ap (λ m. joined_at setup.places (acts_of events) m (length events)) (sym parts.1) ∙ at.joined in
    let end : joined_at setup.places (acts_of events) k (length (acts_of events)) ≡ Some at.position = ap (joined_at setup.places (acts_of events) k) (length_acts events) ∙ joined in
    let l : at.position < length events = joined_lt setup.places events k at.position joined in (
      unheard law setup people events event k p
          (λ speaks.
          let same : at.position ≡ speaks.0 = same_Some _ _ (sym end ∙ speaks.1) in
          let not_silent : listens (kind_at (acts_of events) at.position) ≡ false = ap (λ j. listens (kind_at (acts_of events) j)) same ∙ speaks.2 in
          true≢false (sym (at.listening ∙ only) ∙ not_silent)) is stands,
      sym (verdict (floor_setup setup) (acts_of (events ++ event ∷ [])) (length events) k p at.position (kind_end events event ∙ is)
          (joined_at_before later setup.places events (event ∷ []) k (length events) (omega arith) ∙ joined)
          (ap listens (kind_at_is (events ++ event ∷ []) at.position ∙ ap kind_from (slice_get_before events (event ∷ []) at.position l) ∙ sym (kind_at_is events at.position)) ∙ at.listening ∙ only)),
    )

-- A Leave of one that is not in.
pub stranger_leaves : LeavesOfStrangersChangeNothing → (setup : Setup) (people : People) (events : List Event) (event : Event) (k : Member) → seat_of people.seats k ≡ None → kind_of event.body ≡ act.Leave k → PeopleStandFor setup people events → PeopleStandFor setup people (events ++ event ∷ [])
stranger_leaves law setup people events event k stranger is stands =
    kept_people setup people events event (λ q h. nobody_at_leave event k is q)
    (subst (λ x. KeepsStanding (floor_setup setup) (acts_of events) (with_act (acts_of events) x)) (sym (act_kind event (act.Leave k) is)) (law (floor_setup setup) (acts_of events) event.at k (not_in setup people events k stands stranger))) stands

-- A Join at a place that is none of the module's.
pub past_the_places : JoinsPastThePlacesChangeNothing → (setup : Setup) (people : People) (events : List Event) (event : Event) (seat : Seat) → length people.seats ≤ seat.member.place → seat_from (Some event) ≡ Some seat → PeopleStandFor setup people events → PeopleStandFor setup people (events ++ event ∷ [])
past_the_places law setup people events event seat past is stands =
    let size : length people.seats ≡ setup.places = length_there setup people events stands in
    kept_people setup people events event
    (λ q h. ap (is_at q) is ∙ ne_eqb seat.member.place q (λ same. absurd (omega arith)))
    (subst (λ x. KeepsStanding (floor_setup setup) (acts_of events) (with_act (acts_of events) x)) (sym (act_kind event (act.Join seat.member seat.listens) (seat_kind_from (Some event) seat is))) (law (floor_setup setup) (acts_of events) event.at seat.member seat.listens (omega arith))) stands

-- Anything else that happens.
pub other_people : OtherActsChangeNothing → (setup : Setup) (people : People) (events : List Event) (event : Event) → kind_of event.body ≡ act.Other → PeopleStandFor setup people events → PeopleStandFor setup people (events ++ event ∷ [])
other_people law setup people events event is stands =
    kept_people setup people events event (λ q h. nobody_others event.tag.link event.body q is)
    (law (floor_setup setup) (acts_of events) (act_of event) is) stands
