-- The frames for a member, position by position.
use Rattle.std.proofs.Common.{◌≡◌, ℕ, ◌/◌, ◌<◌, ◌&&◌, Bool, true, false, not, cond, List, [], ◌∷◌, ◌++◌, length, map, get_or, slice_get, nat_lt, is_some, Option, None, Some, refl, ap, sym, ◌∙◌, arith}
use Rattle.std.specs.List.{filter, flat_map, range_with_len}
use Rattle.std.proofs.lemmas.Bool.{cond-true, cond-false, and_right, and_parts, true≢false, true_from_ne_false}
use Rattle.std.proofs.lemmas.Option.{cond_some}
use Rattle.m17_values.specs.declared.member.Member.{Member}
use Rattle.m17_stream.specs.declared.packet.StreamPacket.{StreamPacket}
use Rattle.m17_control.specs.declared.event.Body.{Body}
use Rattle.m17_control.specs.declared.event.Body.TheVariants.{Join, Leave, Packet, Reply, Tick, Stop}
use Rattle.m17_control.specs.declared.event.Event.{Event}
use Rattle.m17_control.specs.declared.event.Why.TheVariants.{Replaced}
use Rattle.m17_control.specs.declared.item.Item.{Item}
use Rattle.m17_control.specs.declared.item.Said.{Said}
use Rattle.m17_control.specs.declared.item.Said.TheVariants as said
use Rattle.m17_floor.specs.Acts.{is_same, is_packet, kind_at, moment_before, moment_at, joined_at}
use Rattle.m17_floor.specs.Floor.{is_packet_of, admits, verdict_at}
use Rattle.m17_floor.specs.Laws.{OnlyPacketsHaveVerdicts}
use Rattle.m17_module.specs.Setup.{floor_setup}
use Rattle.m17_module.specs.declared.seat.Seat.{Seat}
use Rattle.m17_module.specs.Events.{kind_of, acts_of}
use Rattle.m17_module.specs.Seats.{seat_at, seats_at, members_of, seat_in, if_of, seat_of, others_than}
use Rattle.m17_module.specs.Items.{Setup, ping_every_ms, item_to, to_one, greets, says, setting_at, pings_at, echo_items, echoes_at, said_by, said_at, items_at, items_given, is_for, items_for, is_frame, frames_for}
use Rattle.m17_module.specs.Echoes.{echo_at}
use Rattle.m17_module.specs.Laws.{hears, frame_of_body, frame_by, frame_sent, FramesAreThoseHeard, EachHeardIsSentOnce}
use Rattle.m17_module.proofs.Acts.{kind_from, kind_at_is}
use Rattle.m17_module.proofs.Mine.{ArePlaced, mine_at, mine_none, mine_all}
use Rattle.m17_module.proofs.Places.{filter-append}
use Rattle.m17_module.proofs.PeopleMore.{place_there}
use Rattle.m17_module.proofs.SeatsMore.{seat_is_in, joined_has_seat, seats_at_is, length_seats, is_same_self, same_from_is_same}

abbrev framed : List Item → List Item
framed xs = filter (λ item. is_frame item.body) xs

-- who is in, by the list of seats
pub placed : (places : ℕ) (events : List Event) (n : ℕ) → ArePlaced 0 (seats_at places events n)
placed places events n i seat e =
    let h : i < length (seats_at places events n) = place_there (seats_at places events n) i seat e in
    let there : seat_at places events n i ≡ Some seat = sym (seats_at_is places events n i (omega (arith, length_seats places events n))) ∙ e in
    let at : seat.member.place ≡ i = (seat_is_in places events n i seat there).place in
    omega arith

pub seat_of_some : (k : Member) (o : Option Seat) (seat : Seat) → o ≡ Some seat → seat.member ≡ k → if_of k o ≡ Some seat
seat_of_some k o seat e mine =
    ap (if_of k) e ∙ cond-true (is_same seat.member k) (Some seat) None (ap (λ m. is_same m k) mine ∙ is_same_self k)

-- the seat of the member
pub if_of_is : (k : Member) (o : Option Seat) (seat : Seat) → if_of k o ≡ Some seat → (o ≡ Some seat) × (seat.member ≡ k)
if_of_is k None seat e = cc
if_of_is k (Some s) seat e =
    let parts = cond_some (is_same s.member k) s seat e in
    (ap Some parts.1, ap (λ (x : Seat). x.member) (sym parts.1) ∙ same_from_is_same s.member k parts.0)

in_exactly : (places : ℕ) (events : List Event) (n : ℕ) (k : Member) (o : Option ℕ) (s : Option Seat) → joined_at places (acts_of events) k n ≡ o → seat_of (seats_at places events n) k ≡ s → is_some o ≡ is_some s
in_exactly places events n k None None e f = refl
in_exactly places events n k (Some j) (Some seat) e f = refl
in_exactly places events n k (Some j) None e f =
    let has = joined_has_seat places events n k j e in
    let here : get_or (seats_at places events n) k.place None ≡ Some has.seat = seats_at_is places events n k.place has.below ∙ has.is in
    let never : None ≡ Some has.seat = sym f ∙ seat_of_some k (get_or (seats_at places events n) k.place None) has.seat here has.mine in cc
in_exactly places events n k None (Some seat) e f =
    let parts = if_of_is k (get_or (seats_at places events n) k.place None) seat f in
    let h : k.place < length (seats_at places events n) = place_there (seats_at places events n) k.place seat parts.0 in
    let there : seat_at places events n k.place ≡ Some seat = sym (seats_at_is places events n k.place (omega (arith, length_seats places events n))) ∙ parts.0 in
    let in_at = seat_is_in places events n k.place seat there in
    let never : None ≡ Some in_at.position = sym e ∙ ap (λ m. joined_at places (acts_of events) m n) (sym parts.1) ∙ in_at.joined in cc

pub is_in_exactly : (places : ℕ) (events : List Event) (n : ℕ) (k : Member) → is_some (joined_at places (acts_of events) k n) ≡ is_some (seat_of (seats_at places events n) k)
is_in_exactly places events n k = in_exactly places events n k (joined_at places (acts_of events) k n) (seat_of (seats_at places events n) k) refl refl

-- nothing else is a frame
no_frame : (what : Said) (o : Option Seat) → is_frame what ≡ false → framed (to_one what o) ≡ []
no_frame what None e = refl
no_frame what (Some seat) e = cond-false (is_frame what) _ _ e

no_mine : (what : Said) (k : Member) (o : Option Seat) → is_frame what ≡ false → framed (filter (is_for k) (to_one what o)) ≡ []
no_mine what k None e = refl
no_mine what k (Some seat) e = elim (is_same seat.member k) as (λ b. framed (cond b (item_to what seat ∷ []) []) ≡ []) [ true ↦ cond-false (is_frame what) _ _ e | false ↦ refl ]

all_frames : (n : ℕ) (p : StreamPacket) (o : Option Seat) → framed (to_one (said.Frame n p) o) ≡ to_one (said.Frame n p) o
all_frames n p None = refl
all_frames n p (Some seat) = refl

framed_append : (xs ys : List Item) → framed (xs ++ ys) ≡ framed xs ++ framed ys
framed_append xs ys = filter-append (λ item. is_frame item.body) xs ys

no_frames_in : (what : Said) (k : Member) (ys : List Seat) → is_frame what ≡ false → framed (filter (is_for k) (map (item_to what) ys)) ≡ []
no_frames_in what k [] e = refl
no_frames_in what k (seat ∷ ys) e =
    elim (is_same seat.member k) as (λ b. framed (cond b (item_to what seat ∷ filter (is_for k) (map (item_to what) ys)) (filter (is_for k) (map (item_to what) ys))) ≡ [])
    [ true ↦ cond-false (is_frame what) _ _ e ∙ no_frames_in what k ys e | false ↦ no_frames_in what k ys e ]

pings_cases : (k : Member) (b : Bool) (ys : List Seat) → framed (filter (is_for k) (cond b (map (item_to said.Ping) ys) [])) ≡ []
pings_cases k true ys = no_frames_in said.Ping k ys refl
pings_cases k false ys = refl

no_pings : (places : ℕ) (events : List Event) (n : ℕ) (k : Member) → framed (filter (is_for k) (pings_at places events n)) ≡ []
unfolding pings_at
no_pings places events n k =
    pings_cases k (nat_lt (moment_before (acts_of events) n / ping_every_ms) (moment_at (acts_of events) n / ping_every_ms)) (members_of (seats_at places events n))

echo_cases : (k : Member) (n : ℕ) (seats : List (Option Seat)) (b : Bool) (echo : Option (Member × StreamPacket)) → framed (filter (is_for k) (cond b (echo_items n seats echo) [])) ≡ []
echo_cases k n seats false echo = refl
echo_cases k n seats true None = refl
echo_cases k n seats true (Some e) = no_mine (said.Echo n e.1) k (seat_of seats e.0) refl

no_echoes : (setup : Setup) (events : List Event) (n : ℕ) (k : Member) → framed (filter (is_for k) (echoes_at setup events n)) ≡ []
unfolding echoes_at
no_echoes setup events n k = echo_cases k n (seats_at setup.places events n) setup.parrot (echo_at setup (acts_of events) n)

greets_cases : (k : Member) (b : Bool) (o : Option Seat) (seat : Seat) (after : ℕ) → framed (filter (is_for k) (cond b (to_one (said.Bye Replaced) o ++ item_to (said.Hello after) seat ∷ []) [])) ≡ []
greets_cases k false o seat after = refl
greets_cases k true o seat after =
    ap framed (filter-append (is_for k) (to_one (said.Bye Replaced) o) (item_to (said.Hello after) seat ∷ []))
    ∙ framed_append (filter (is_for k) (to_one (said.Bye Replaced) o)) (filter (is_for k) (item_to (said.Hello after) seat ∷ []))
    ∙ ap (λ xs. xs ++ framed (filter (is_for k) (item_to (said.Hello after) seat ∷ []))) (no_mine (said.Bye Replaced) k o refl)
    ∙ no_mine (said.Hello after) k (Some seat) refl

greets_none : (k : Member) (seats : List (Option Seat)) (seat : Seat) (after : ℕ) → framed (filter (is_for k) (greets seats seat after)) ≡ []
greets_none k seats seat after = greets_cases k (nat_lt seat.member.place (length seats)) (seat_in seats seat.member.place) seat after

only_some : (n : ℕ) (p : StreamPacket) (o : Option Seat) → to_one (said.Frame n p) o ≡ cond (is_some o && true) (to_one (said.Frame n p) o) []
only_some n p None = refl
only_some n p (Some seat) = refl

-- the frame of an admitted packet
relay : (places : ℕ) (events : List Event) (n : ℕ) (k m : Member) (p : StreamPacket) (admitted same : Bool) → is_same m k ≡ same →
    framed (filter (is_for k) (cond admitted (map (item_to (said.Frame n p)) (others_than m (seats_at places events n))) []))
    ≡ cond (is_some (seat_of (seats_at places events n) k) && (admitted && not same)) (to_one (said.Frame n p) (seat_of (seats_at places events n) k)) []
relay places events n k m p false same e = sym (cond-false (is_some (seat_of (seats_at places events n) k) && false) (to_one (said.Frame n p) (seat_of (seats_at places events n) k)) [] (and_right (is_some (seat_of (seats_at places events n) k)) false refl))
relay places events n k m p true true e =
    ap (λ x. framed (filter (is_for k) (map (item_to (said.Frame n p)) (others_than x (seats_at places events n))))) (same_from_is_same m k e)
    ∙ ap framed (mine_none (said.Frame n p) k (members_of (seats_at places events n)))
    ∙ sym (cond-false (is_some (seat_of (seats_at places events n) k) && false) (to_one (said.Frame n p) (seat_of (seats_at places events n) k)) [] (and_right (is_some (seat_of (seats_at places events n) k)) false refl))
relay places events n k m p true false e =
    ap framed (mine_all (said.Frame n p) k m (members_of (seats_at places events n)) e ∙ mine_at (said.Frame n p) k 0 (seats_at places events n) k.place (omega arith) (placed places events n))
    ∙ all_frames n p (seat_of (seats_at places events n) k)
    ∙ only_some n p (seat_of (seats_at places events n) k)

pub cond_same : (b : Bool) → ◌≡◌ {A = List Item} (cond b [] []) []
cond_same true = refl
cond_same false = refl

-- what the event itself says, frame by frame
said_framed : (setup : Setup) (events : List Event) (n : ℕ) (k : Member) (link : ℕ) (body : Body) →
    framed (filter (is_for k) (says (setting_at setup events n link) body))
    ≡ cond (is_some (seat_of (seats_at setup.places events n) k) && (admits (verdict_at (floor_setup setup) (acts_of events) n) && not (is_packet_of k (kind_of body)))) (frame_of_body setup.places events k n body) []
said_framed setup events n k link (Packet m p) = relay setup.places events n k m p (admits (verdict_at (floor_setup setup) (acts_of events) n)) (is_same m k) refl
said_framed setup events n k link (Join m peer callsign l after) = greets_none k (seats_at setup.places events n) (record { member = m; link = link; peer = peer; listens = l }) after ∙ sym (cond_same _)
said_framed setup events n k link (Leave m why) = no_mine (said.Bye why) k (seat_of (seats_at setup.places events n) m) refl ∙ sym (cond_same _)
said_framed setup events n k link (Reply m control) = no_mine (said.Reply control) k (seat_of (seats_at setup.places events n) m) refl ∙ sym (cond_same _)
said_framed setup events n k link Tick = sym (cond_same _)
said_framed setup events n k link Stop = sym (cond_same _)

said_by_framed : (setup : Setup) (events : List Event) (n : ℕ) (k : Member) (o : Option Event) →
    framed (filter (is_for k) (said_by setup events n o))
    ≡ cond (is_some (seat_of (seats_at setup.places events n) k) && (admits (verdict_at (floor_setup setup) (acts_of events) n) && not (is_packet_of k (kind_from o)))) (frame_by setup.places events k n o) []
said_by_framed setup events n k None = sym (cond_same _)
said_by_framed setup events n k (Some event) = said_framed setup events n k event.tag.link event.body

-- one position
framed_at : (setup : Setup) (events : List Event) (k : Member) (n : ℕ) → framed (filter (is_for k) (items_at setup events n)) ≡ cond (hears setup events k n) (frame_sent setup.places events k n) []
unfolding items_at said_at
framed_at setup events k n =
    let pings : List Item = pings_at setup.places events n in
    let told : List Item = said_by setup events n (slice_get events n) in
    let rest : Bool → Bool → Bool = λ b c. b && (admits (verdict_at (floor_setup setup) (acts_of events) n) && not c) in
    let played : List Item = echoes_at setup events n in
    ap framed (filter-append (is_for k) (pings ++ played) told)
    ∙ framed_append (filter (is_for k) (pings ++ played)) (filter (is_for k) told)
    ∙ ap (λ xs. framed xs ++ framed (filter (is_for k) told)) (filter-append (is_for k) pings played)
    ∙ ap (λ xs. xs ++ framed (filter (is_for k) told)) (framed_append (filter (is_for k) pings) (filter (is_for k) played))
    ∙ ap (λ xs. (xs ++ framed (filter (is_for k) played)) ++ framed (filter (is_for k) told)) (no_pings setup.places events n k)
    ∙ ap (λ xs. xs ++ framed (filter (is_for k) told)) (no_echoes setup events n k)
    ∙ said_by_framed setup events n k (slice_get events n)
    ∙ ap (λ b. cond (rest b (is_packet_of k (kind_from (slice_get events n)))) (frame_sent setup.places events k n) []) (sym (is_in_exactly setup.places events n k))
    ∙ ap (λ kind. cond (rest (is_some (joined_at setup.places (acts_of events) k n)) (is_packet_of k kind)) (frame_sent setup.places events k n) []) (sym (kind_at_is events n))

head_cases : (b : Bool) (f : ℕ → List Item) (n : ℕ) (ns : List ℕ) → cond b (f n) [] ++ flat_map f ns ≡ flat_map f (cond b (n ∷ ns) ns)
head_cases true f n ns = refl
head_cases false f n ns = refl

-- all positions
framed_all : (setup : Setup) (events : List Event) (k : Member) (ns : List ℕ) → framed (filter (is_for k) (flat_map (items_at setup events) ns)) ≡ flat_map (frame_sent setup.places events k) (filter (hears setup events k) ns)
framed_all setup events k [] = refl
framed_all setup events k (n ∷ ns) =
    ap framed (filter-append (is_for k) (items_at setup events n) (flat_map (items_at setup events) ns))
    ∙ framed_append (filter (is_for k) (items_at setup events n)) (filter (is_for k) (flat_map (items_at setup events) ns))
    ∙ ap (λ xs. xs ++ framed (filter (is_for k) (flat_map (items_at setup events) ns))) (framed_at setup events k n)
    ∙ ap (λ xs. cond (hears setup events k n) (frame_sent setup.places events k n) [] ++ xs) (framed_all setup events k ns)
    ∙ head_cases (hears setup events k n) (frame_sent setup.places events k) n (filter (hears setup events k) ns)

pub frames_heard : FramesAreThoseHeard
unfolding frames_for items_for items_given
frames_heard setup events k = framed_all setup events k (range_with_len 0 (length events))

-- a position that is heard is sent as one item
one_item : (n : ℕ) (p : StreamPacket) (o : Option Seat) → is_some o ≡ true → length (to_one (said.Frame n p) o) ≡ 1
one_item n p None e = cc
one_item n p (Some seat) e = refl

once_body : (places : ℕ) (events : List Event) (k : Member) (n : ℕ) (body : Body) → is_some (seat_of (seats_at places events n) k) ≡ true → is_packet (kind_of body) ≡ true → length (frame_of_body places events k n body) ≡ 1
once_body places events k n (Packet m p) here is = one_item n p (seat_of (seats_at places events n) k) here
once_body places events k n (Join m peer callsign l after) here is = cc
once_body places events k n (Leave m why) here is = cc
once_body places events k n (Reply m control) here is = cc
once_body places events k n Tick here is = cc
once_body places events k n Stop here is = cc

once_by : (places : ℕ) (events : List Event) (k : Member) (n : ℕ) (o : Option Event) → is_some (seat_of (seats_at places events n) k) ≡ true → is_packet (kind_from o) ≡ true → length (frame_by places events k n o) ≡ 1
once_by places events k n None here is = cc
once_by places events k n (Some event) here is = once_body places events k n event.body here is

-- only a packet is admitted
packet_admitted : OnlyPacketsHaveVerdicts → (setup : Setup) (events : List Event) (n : ℕ) → admits (verdict_at (floor_setup setup) (acts_of events) n) ≡ true → is_packet (kind_at (acts_of events) n) ≡ true
packet_admitted law setup events n e =
    true_from_ne_false (is_packet (kind_at (acts_of events) n))
    (λ no_packet. true≢false (sym e ∙ ap admits (law (floor_setup setup) (acts_of events) n no_packet)))

pub heard_once : OnlyPacketsHaveVerdicts → EachHeardIsSentOnce
heard_once law setup events k n h =
    let parts = and_parts (is_some (joined_at setup.places (acts_of events) k n)) (admits (verdict_at (floor_setup setup) (acts_of events) n) && not (is_packet_of k (kind_at (acts_of events) n))) h in
    let admitted = and_parts (admits (verdict_at (floor_setup setup) (acts_of events) n)) (not (is_packet_of k (kind_at (acts_of events) n))) parts.1 in
    once_by setup.places events k n (slice_get events n) (sym (is_in_exactly setup.places events n k) ∙ parts.0)
    (ap is_packet (sym (kind_at_is events n)) ∙ packet_admitted law setup events n admitted.0)
