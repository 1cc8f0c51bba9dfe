-- What holds of each member that is in holds of each item: R of the member's seat, P of the item.
use Rattle.std.proofs.Common.{◌≡◌, ℕ, zero, suc, ◌/◌, ◌<◌, Bool, true, false, cond, List, [], ◌∷◌, ◌++◌, length, map, slice_get, get_or, nat_lt, Option, None, Some, refl, ap, sym, ◌∙◌, subst}
use Rattle.std.specs.List.{All, cons_option, flat_map, range_with_len}
use Rattle.std.proofs.lemmas.Bool.{ltb-true, false≢true}
use Rattle.std.proofs.lemmas.List.Elements.{All-nil, All-cons, All-head, All-tail, All-get_or, All-append, All-filter, All-map, All-weaker}
use Rattle.std.proofs.lemmas.Option.{same_Some, option_and_then_some, get_or_from_slice_get, slice_get_within}
use Rattle.m17_values.specs.declared.member.Member.{Member}
use Rattle.m17_values.specs.declared.peer.Peer.{Peer}
use Rattle.m17_stream.specs.declared.packet.StreamPacket.{StreamPacket}
use Rattle.m17_control.specs.declared.event.Body.{Body}
use Rattle.m17_control.specs.declared.event.Body.TheVariants.{Join, Leave, Packet, Reply, Tick, Stop}
use Rattle.m17_control.specs.declared.event.Event.{Event}
use Rattle.m17_control.specs.declared.event.Why.TheVariants.{Replaced}
use Rattle.m17_control.specs.declared.item.Item.{Item}
use Rattle.m17_control.specs.declared.item.Said.{Said}
use Rattle.m17_control.specs.declared.item.Said.TheVariants as said
use Rattle.m17_floor.specs.Acts.{is_same, moment_before, moment_at}
use Rattle.m17_module.specs.declared.seat.Seat.{Seat}
use Rattle.m17_module.specs.Events.{acts_of}
use Rattle.m17_module.specs.Seats.{seat_joined, seat_from, if_in_by, last_join, seat_at, seats_at, members_of, seat_in, if_of, seat_of, others_than}
use Rattle.m17_module.specs.Echoes.{echo_at}
use Rattle.m17_module.specs.Items.{Setup, Setting, setting_at, ping_every_ms, item_to, to_one, greets, says, pings_at, echo_items, echoes_at, said_by, said_at, items_at, items_given}
use Rattle.m17_module.specs.Laws.{is_hello, ItemsAreAtPlaces, ItemsKeepLinks, FollowsJoin, ItemsFollowTheirJoins}
use Rattle.m17_module.proofs.SeatsMore.{if_in_some, joined_has_seat, length_seats}

-- who is in at a place, if anybody is
abbrev OfPlace : (Seat → Type 0) → Option Seat → Type 0
OfPlace R None = Unit {0}
OfPlace R (Some seat) = R seat

-- who is in, from the list of places
members_front : (R : Seat → Type 0) (o : Option Seat) (seats : List Seat) → OfPlace R o → All R seats → All R (cons_option o seats)
members_front R None seats h rest = rest
members_front R (Some seat) seats h rest = All-cons R seat seats h rest

members_hold : (R : Seat → Type 0) (seats : List (Option Seat)) → All (OfPlace R) seats → All R (members_of seats)
members_hold R [] h = All-nil R
members_hold R (o ∷ seats) h = members_front R o (members_of seats) (All-head (OfPlace R) o seats h) (members_hold R seats (All-tail (OfPlace R) o seats h))

in_holds : (R : Seat → Type 0) (seats : List (Option Seat)) (place : ℕ) → All (OfPlace R) seats → OfPlace R (seat_in seats place)
in_holds R [] place h = tt
in_holds R (o ∷ seats) zero h = All-head (OfPlace R) o seats h
in_holds R (o ∷ seats) (suc place) h = in_holds R seats place (All-tail (OfPlace R) o seats h)

mine_holds : (R : Seat → Type 0) (k : Member) (o : Option Seat) → OfPlace R o → OfPlace R (if_of k o)
mine_holds R k None h = tt
mine_holds R k (Some seat) h = elim (is_same seat.member k) as (λ b. OfPlace R (cond b (Some seat) None)) [ true ↦ h | false ↦ tt ]

of_holds : (R : Seat → Type 0) (seats : List (Option Seat)) (k : Member) → All (OfPlace R) seats → OfPlace R (seat_of seats k)
of_holds R seats k h = mine_holds R k (seat_in seats k.place) (in_holds R seats k.place h)

-- R holds of each member that an event brings in at one of the places
abbrev OfEvents : (Seat → Type 0) → ℕ → List Event → Type 0
OfEvents R places events = (j : ℕ) (event : Event) (seat : Seat) → slice_get events j ≡ Some event → seat_joined event.tag.link event.body ≡ Some seat → seat.member.place < places → R seat

-- P holds of the Hello of each such member
abbrev OfHello : (Item → Type 0) → ℕ → ℕ → Body → Type 0
OfHello P places link body = (k : Member) (peer : Peer) (callsign : ℕ) (listens : Bool) (after : ℕ) → body ≡ Join k peer callsign listens after → k.place < places → P (item_to (said.Hello after) (record { member = k; link = link; peer = peer; listens = listens }))

abbrev OfHellos : (Item → Type 0) → ℕ → List Event → Type 0
OfHellos P places events = (j : ℕ) (event : Event) → slice_get events j ≡ Some event → OfHello P places event.tag.link event.body

seat_event : (o : Option Event) (seat : Seat) → seat_from o ≡ Some seat → (event : Event) × (o ≡ Some event) × (seat_joined event.tag.link event.body ≡ Some seat)
seat_event None seat e = cc
seat_event (Some event) seat e = (event, refl, e)

seat_holds : (R : Seat → Type 0) (places : ℕ) (events : List Event) (n q : ℕ) (o : Option Seat) → OfEvents R places events → seat_at places events n q ≡ o → OfPlace R o
unfolding seat_at
seat_holds R places events n q None each e = tt
seat_holds R places events n q (Some seat) each e =
    option_and_then_some (λ j. if_in_by places events n j (seat_from (slice_get events j))) (last_join events n q) seat e
    (λ j found there.
    let parts = if_in_some places events n j (seat_from (slice_get events j)) seat there in
    let by = seat_event (slice_get events j) seat parts.0 in
    each j by.0 seat by.1 by.2 (joined_has_seat places events n seat.member j parts.1).below)

seats_hold : (R : Seat → Type 0) (places : ℕ) (events : List Event) (n : ℕ) → OfEvents R places events → All (OfPlace R) (seats_at places events n)
unfolding seats_at
seats_hold R places events n each =
    All-map (OfPlace R) (seat_at places events n) (range_with_len 0 places)
    (λ i d h. seat_holds R places events n (get_or (range_with_len 0 places) i d) (seat_at places events n (get_or (range_with_len 0 places) i d)) each refl)

if_holds : (P : Item → Type 0) (b : Bool) (items : List Item) → (b ≡ true → All P items) → All P (cond b items [])
if_holds P true items h = h refl
if_holds P false items h = All-nil P

module _ (R : Seat → Type 0) (P : Item → Type 0) (lift : (what : Said) (seat : Seat) → is_hello what ≡ false → R seat → P (item_to what seat)) where
  -- what is said to one, and to all
  one_holds : (what : Said) (o : Option Seat) → is_hello what ≡ false → OfPlace R o → All P (to_one what o)
  one_holds what None other h = All-nil P
  one_holds what (Some seat) other h = All-cons P (item_to what seat) [] (lift what seat other h) (All-nil P)

  all_hold : (what : Said) (seats : List Seat) → is_hello what ≡ false → All R seats → All P (map (item_to what) seats)
  all_hold what seats other h = All-map P (item_to what) seats (All-weaker R (λ seat. P (item_to what seat)) (λ seat r. lift what seat other r) seats h)

  -- the three parts
  greets_hold : (seats : List (Option Seat)) (seat : Seat) (after : ℕ) → All (OfPlace R) seats → (seat.member.place < length seats → P (item_to (said.Hello after) seat)) → All P (greets seats seat after)
  greets_hold seats seat after h joins =
      if_holds P (nat_lt seat.member.place (length seats)) (to_one (said.Bye Replaced) (seat_in seats seat.member.place) ++ item_to (said.Hello after) seat ∷ [])
      (λ below.
      All-append P (to_one (said.Bye Replaced) (seat_in seats seat.member.place)) (item_to (said.Hello after) seat ∷ [])
      (one_holds (said.Bye Replaced) (seat_in seats seat.member.place) refl (in_holds R seats seat.member.place h))
      (All-cons P (item_to (said.Hello after) seat) [] (joins (ltb-true seat.member.place (length seats) below)) (All-nil P)))

  says_hold : (now : Setting) (body : Body) → All (OfPlace R) now.seats → OfHello P (length now.seats) now.link body → All P (says now body)
  says_hold now (Join k peer callsign listens after) h hello =
      let seat : Seat = record { member = k; link = now.link; peer = peer; listens = listens } in
      greets_hold now.seats seat after h (hello k peer callsign listens after refl)
  says_hold now (Leave k why) h hello = one_holds (said.Bye why) (seat_of now.seats k) refl (of_holds R now.seats k h)
  says_hold now (Packet k p) h hello =
      if_holds P now.admitted (map (item_to (said.Frame now.position p)) (others_than k now.seats))
      (λ admitted. all_hold (said.Frame now.position p) (others_than k now.seats) refl (All-filter _ R (members_of now.seats) (members_hold R now.seats h)))
  says_hold now (Reply k control) h hello = one_holds (said.Reply control) (seat_of now.seats k) refl (of_holds R now.seats k h)
  says_hold now Tick h hello = All-nil P
  says_hold now Stop h hello = All-nil P

  said_by_hold : (setup : Setup) (events : List Event) (n : ℕ) (o : Option Event) → OfEvents R setup.places events → OfHellos P setup.places events → slice_get events n ≡ o → All P (said_by setup events n o)
  said_by_hold setup events n None each hello e = All-nil P
  said_by_hold setup events n (Some event) each hello e =
      says_hold (setting_at setup events n event.tag.link) event.body (seats_hold R setup.places events n each)
      (λ k peer callsign listens after is h. hello n event e k peer callsign listens after is (subst (λ (m : ℕ). k.place < m) (length_seats setup.places events n) h))

  said_holds : (setup : Setup) (events : List Event) (n : ℕ) → OfEvents R setup.places events → OfHellos P setup.places events → All P (said_at setup events n)
  unfolding said_at
  said_holds setup events n each hello = said_by_hold setup events n (slice_get events n) each hello refl

  pings_hold : (places : ℕ) (events : List Event) (n : ℕ) → OfEvents R places events → All P (pings_at places events n)
  unfolding pings_at
  pings_hold places events n each =
      if_holds P (nat_lt (moment_before (acts_of events) n / ping_every_ms) (moment_at (acts_of events) n / ping_every_ms)) (map (item_to said.Ping) (members_of (seats_at places events n)))
      (λ passed. all_hold said.Ping (members_of (seats_at places events n)) refl (members_hold R (seats_at places events n) (seats_hold R places events n each)))

  echo_holds : (n : ℕ) (seats : List (Option Seat)) (echo : Option (Member × StreamPacket)) → All (OfPlace R) seats → All P (echo_items n seats echo)
  echo_holds n seats None h = All-nil P
  echo_holds n seats (Some echo) h = one_holds (said.Echo n echo.1) (seat_of seats echo.0) refl (of_holds R seats echo.0 h)

  echoes_hold : (setup : Setup) (events : List Event) (n : ℕ) → OfEvents R setup.places events → All P (echoes_at setup events n)
  unfolding echoes_at
  echoes_hold setup events n each =
      if_holds P setup.parrot (echo_items n (seats_at setup.places events n) (echo_at setup (acts_of events) n))
      (λ parrot. echo_holds n (seats_at setup.places events n) (echo_at setup (acts_of events) n) (seats_hold R setup.places events n each))

  items_hold : (setup : Setup) (events : List Event) (n : ℕ) → OfEvents R setup.places events → OfHellos P setup.places events → All P (items_at setup events n)
  unfolding items_at
  items_hold setup events n each hello =
      All-append P (pings_at setup.places events n ++ echoes_at setup events n) (said_at setup events n)
      (All-append P (pings_at setup.places events n) (echoes_at setup events n) (pings_hold setup.places events n each) (echoes_hold setup events n each))
      (said_holds setup events n each hello)

pub items_are_at_places : ItemsAreAtPlaces
items_are_at_places setup events n =
    items_hold (λ seat. seat.member.place < setup.places) (λ item. item.member.place < setup.places) (λ what seat other h. h) setup events n
    (λ j event seat at is below. below)
    (λ j event at k peer callsign listens after is below. below)

all_at : {X : Type 0} (P : X → Type 0) (xs : List X) (i : ℕ) (x : X) → All P xs → slice_get xs i ≡ Some x → P x
all_at P xs i x h e = subst P (get_or_from_slice_get xs i x x e) (All-get_or P xs i x (slice_get_within xs i x e) h)

seat_link : (link : ℕ) (body : Body) (seat : Seat) → seat_joined link body ≡ Some seat → seat.link ≡ link
seat_link link (Join k peer callsign listens after) seat e = ap (λ (s : Seat). s.link) (sym (same_Some _ seat e))
seat_link link (Leave k why) seat e = cc
seat_link link (Packet k p) seat e = cc
seat_link link (Reply k control) seat e = cc
seat_link link Tick seat e = cc
seat_link link Stop seat e = cc

pub items_keep_links : ItemsKeepLinks
items_keep_links setup events n links low =
    let tag : (j : ℕ) (event : Event) → slice_get events j ≡ Some event → event.tag.link < links = λ j event at. all_at (λ (e : Event). e.tag.link < links) events j event low at in
    items_hold (λ seat. seat.link < links) (λ item. item.link < links) (λ what seat other h. h) setup events n
    (λ j event seat at is below. subst (λ (link : ℕ). link < links) (sym (seat_link event.tag.link event.body seat is)) (tag j event at))
    (λ j event at k peer callsign listens after is below. tag j event at)

-- the Join of a seat
record HasJoin (events : List Event) (seat : Seat) : Type 0 where
  position : ℕ
  event : Event
  callsign : ℕ
  listens : Bool
  after : ℕ
  there : slice_get events position ≡ Some event
  body : event.body ≡ Join seat.member seat.peer callsign listens after
  link : event.tag.link ≡ seat.link

record JoinOf (body : Body) (seat : Seat) : Type 0 where
  callsign : ℕ
  after : ℕ
  is : body ≡ Join seat.member seat.peer callsign seat.listens after

join_of : (link : ℕ) (body : Body) (seat : Seat) → seat_joined link body ≡ Some seat → JoinOf body seat
join_of link (Join k peer callsign listens after) seat e =
    record { callsign = callsign; after = after; is = ap (λ (s : Seat). Join s.member s.peer callsign s.listens after) (same_Some _ seat e) }
join_of link (Leave k why) seat e = cc
join_of link (Packet k p) seat e = cc
join_of link (Reply k control) seat e = cc
join_of link Tick seat e = cc
join_of link Stop seat e = cc

seat_has_join : (events : List Event) (j : ℕ) (event : Event) (seat : Seat) → slice_get events j ≡ Some event → seat_joined event.tag.link event.body ≡ Some seat → HasJoin events seat
seat_has_join events j event seat at is =
    let join = join_of event.tag.link event.body seat is in
    record {
      position = j;
      event = event;
      callsign = join.callsign;
      listens = seat.listens;
      after = join.after;
      there = at;
      body = join.is;
      link = sym (seat_link event.tag.link event.body seat is);
    }

follows : (events : List Event) (what : Said) (seat : Seat) → is_hello what ≡ false → HasJoin events seat → FollowsJoin events (item_to what seat)
follows events what seat other join = record {
  position = join.position;
  event = join.event;
  callsign = join.callsign;
  listens = join.listens;
  after = join.after;
  there = join.there;
  body = join.body;
  link = join.link;
  waits = λ number is. absurd (false≢true (sym other ∙ ap is_hello is));
}

hello_follows : (events : List Event) (j : ℕ) (event : Event) (k : Member) (peer : Peer) (callsign : ℕ) (listens : Bool) (after : ℕ) → slice_get events j ≡ Some event → event.body ≡ Join k peer callsign listens after → FollowsJoin events (item_to (said.Hello after) (record { member = k; link = event.tag.link; peer = peer; listens = listens }))
hello_follows events j event k peer callsign listens after at is = record {
  position = j;
  event = event;
  callsign = callsign;
  listens = listens;
  after = after;
  there = at;
  body = is;
  link = refl;
  waits = λ number same. (let back : number ≡ after = cc in back);
}

follow_at : (setup : Setup) (events : List Event) (n : ℕ) → All (FollowsJoin events) (items_at setup events n)
follow_at setup events n =
    items_hold (HasJoin events) (FollowsJoin events) (follows events) setup events n
    (λ j event seat at is below. seat_has_join events j event seat at is)
    (λ j event at k peer callsign listens after is below. hello_follows events j event k peer callsign listens after at is)

all_given : (P : Item → Type 0) (f : ℕ → List Item) (ns : List ℕ) → ((n : ℕ) → All P (f n)) → All P (flat_map f ns)
all_given P f [] each = All-nil P
all_given P f (n ∷ ns) each = All-append P (f n) (flat_map f ns) (each n) (all_given P f ns each)

follow_given : (setup : Setup) (events : List Event) → All (FollowsJoin events) (items_given setup events)
unfolding items_given
follow_given setup events = all_given (FollowsJoin events) (items_at setup events) (range_with_len 0 (length events)) (follow_at setup events)

pub items_follow_their_joins : ItemsFollowTheirJoins
items_follow_their_joins = record { at = follow_at; given = follow_given }
