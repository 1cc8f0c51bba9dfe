-- What is said, where the same events are of other members.
use Rattle.std.proofs.Common.{◌≡◌, ℕ, suc, ◌+◌, ◌/◌, ◌<◌, ◌≤◌, ◌&&◌, Bool, true, false, not, cond, List, [], ◌∷◌, ◌++◌, length, map, replicate, slice_get, nat_lt, Option, None, Some, inl, inr, refl, ap, sym, ◌∙◌, arith}
use Rattle.std.specs.List.{filter, filter_map, flat_map, cons_option, range_with_len, count_by}
use Rattle.std.proofs.lemmas.Bool.{lt-ltb, cases_Bool}
use Rattle.std.proofs.lemmas.List.Sums.{sum_by-cons}
use Rattle.m17_values.specs.declared.member.Member.{Member}
use Rattle.m17_values.specs.declared.peer.Peer.{Peer}
use Rattle.m17_stream.specs.declared.packet.StreamPacket.{StreamPacket}
use Rattle.m17_control.specs.declared.event.Body.{Body}
use Rattle.m17_control.specs.declared.event.Body.TheVariants as body
use Rattle.m17_control.specs.declared.event.Event.{Event}
use Rattle.m17_control.specs.declared.event.Why.TheVariants.{Replaced}
use Rattle.m17_control.specs.declared.item.Item.{Item}
use Rattle.m17_control.specs.declared.item.Said.{Said}
use Rattle.m17_control.specs.declared.item.Said.TheVariants as said
use Rattle.m17_control.specs.declared.packet.Packet.{Packet}
use Rattle.m17_control.specs.Renamed.{IsRenamedBody, packet_reaching}
use Rattle.m17_control.specs.Spelled.{packet_said}
use Rattle.m17_floor.specs.Acts.{is_same, kind_at, moment_before, moment_at}
use Rattle.m17_module.specs.declared.seat.Seat.{Seat}
use Rattle.m17_module.specs.Events.{kind_of, acts_of}
use Rattle.m17_module.specs.Seats.{seats_at, members_of, seat_in, seat_of, others_than}
use Rattle.m17_module.specs.Echoes.{is_admitted_at, echo_at}
use Rattle.m17_module.specs.Items.{Setup, Setting, setting_at, ping_every_ms, item_to, to_one, greets, says, pings_at, echo_items, echoes_at, said_by, said_at, items_at, items_given}
use Rattle.m17_module.specs.Laws.{AreFreelyRenamed, RenamingChangesNothingSaid}
use Rattle.m17_module.proofs.Acts.{kind_from, kind_at_is, length_acts}
use Rattle.m17_module.proofs.ItemsMore.{flat_map_same}
use Rattle.m17_module.proofs.Places.{filter_map-append}
use Rattle.m17_module.proofs.SeatsMore.{length_seats}
use Rattle.m17_module.proofs.RenamedEvents.{FloorRenamed, IsRenamedAt, renamed_at, length_renamed, free_acts, acts_renamed}
use Rattle.m17_module.proofs.RenamedSeats.{AreLikeSeats, members_like, seat_like}
use Rattle.m17_module.proofs.RenamedEchoes.{admitted_renamed, before_renamed, moment_renamed, AreLikeEchoes, echo_renamed}

-- what reaches these peers of some items
abbrev reaching : (Peer → Bool) → ℕ → List Item → List Packet
reaching these name items = filter_map (packet_reaching these name) items

-- to one, or to nobody
one_reaches : (stands : Member → Member → Bool) (these : Peer → Bool) (name : ℕ) (what what' : Said) (a b : Option Seat) → packet_said what name ≡ packet_said what' name → AreLikeSeats stands a b → reaching these name (to_one what a) ≡ reaching these name (to_one what' b)
one_reaches stands these name what what' None None e h = refl
one_reaches stands these name what what' (Some s) (Some t) e h =
    ap (λ peer. cons_option (cond (these peer) (packet_said what name) None) []) h.peer
    ∙ ap (λ p. cons_option (cond (these t.peer) p None) []) e
one_reaches stands these name what what' None (Some t) e h = absurd h
one_reaches stands these name what what' (Some s) None e h = absurd h

-- to many: the same packet as often as there are such peers
copies : Option Packet → ℕ → List Packet
copies None n = []
copies (Some p) n = replicate n p

copies_step : (o : Option Packet) (b : Bool) (n : ℕ) → cons_option (cond b o None) (copies o n) ≡ copies o (cond b 1 0 + n)
unfolding copies
copies_step None true n = refl
copies_step None false n = refl
copies_step (Some p) true n = let e : suc n ≡ 1 + n = omega arith in ap (λ m. replicate m p) e
copies_step (Some p) false n = let e : n ≡ 0 + n = omega arith in ap (λ m. replicate m p) e

copies_none : (o : Option Packet) → [] ≡ copies o 0
unfolding copies
copies_none None = refl
copies_none (Some p) = refl

all_reach : (these : Peer → Bool) (name : ℕ) (what : Said) (seats : List Seat) → reaching these name (map (item_to what) seats) ≡ copies (packet_said what name) (count_by (λ (s : Seat). these s.peer) seats)
all_reach these name what [] = copies_none (packet_said what name)
all_reach these name what (s ∷ seats) =
    ap (cons_option (cond (these s.peer) (packet_said what name) None)) (all_reach these name what seats)
    ∙ copies_step (packet_said what name) (these s.peer) (count_by (λ (x : Seat). these x.peer) seats)
    ∙ ap (copies (packet_said what name)) (sym (sum_by-cons (λ (x : Seat). cond (these x.peer) 1 0) s seats))

zero_plus : (n : ℕ) → n ≡ 0 + n
zero_plus n = omega arith

count_filtered : (p test : Seat → Bool) (seats : List Seat) → count_by test (filter p seats) ≡ count_by (λ s. p s && test s) seats
count_filtered p test [] = refl
count_filtered p test (s ∷ seats) = elim (cases_Bool (p s)) [
  | inl e ↦
      ap (λ b. count_by test (cond b (s ∷ filter p seats) (filter p seats))) e
      ∙ sum_by-cons (λ x. cond (test x) 1 0) s (filter p seats)
      ∙ ap (λ n. cond (test s) 1 0 + n) (count_filtered p test seats)
      ∙ ap (λ b. cond (b && test s) 1 0 + count_by (λ x. p x && test x) seats) (sym e)
      ∙ sym (sum_by-cons (λ x. cond (p x && test x) 1 0) s seats)
  | inr e ↦
      ap (λ b. count_by test (cond b (s ∷ filter p seats) (filter p seats))) e
      ∙ count_filtered p test seats
      ∙ zero_plus (count_by (λ x. p x && test x) seats)
      ∙ ap (λ b. cond (b && test s) 1 0 + count_by (λ x. p x && test x) seats) (sym e)
      ∙ sym (sum_by-cons (λ x. cond (p x && test x) 1 0) s seats)
]

if_reaches : (these : Peer → Bool) (name : ℕ) (b : Bool) (xs ys : List Item) → reaching these name xs ≡ reaching these name ys → reaching these name (cond b xs []) ≡ reaching these name (cond b ys [])
if_reaches these name true xs ys e = e
if_reaches these name false xs ys e = refl

-- the pings
pings_reach : FloorRenamed → (stands : Member → Member → Bool) (places : ℕ) (events others : List Event) (n : ℕ) (these : Peer → Bool) (name : ℕ) → AreFreelyRenamed stands places events others → reaching these name (pings_at places events n) ≡ reaching these name (pings_at places others n)
unfolding pings_at
pings_reach law stands places events others n these name r =
    let a = acts_of events in
    let b = acts_of others in
    let floor = acts_renamed stands places events others r in
    let pinged : ℕ → ℕ → List Seat → List Packet = λ x y seats. reaching these name (cond (nat_lt (x / ping_every_ms) (y / ping_every_ms)) (map (item_to said.Ping) seats) []) in
    let same : reaching these name (map (item_to said.Ping) (members_of (seats_at places events n))) ≡ reaching these name (map (item_to said.Ping) (members_of (seats_at places others n))) =
    all_reach these name said.Ping (members_of (seats_at places events n))
    ∙ ap (copies (packet_said said.Ping name)) (members_like law stands places events others n (λ (s : Seat). these s.peer) (λ (s : Seat). these s.peer) r (λ s t h. ap these h.peer))
    ∙ sym (all_reach these name said.Ping (members_of (seats_at places others n))) in
    ap (λ x. pinged x (moment_at a n) (members_of (seats_at places events n))) (before_renamed stands places a b n floor)
    ∙ ap (λ y. pinged (moment_before b n) y (members_of (seats_at places events n))) (moment_renamed stands places a b n floor)
    ∙ if_reaches these name (nat_lt (moment_before b n / ping_every_ms) (moment_at b n / ping_every_ms)) _ _ same

-- the echo
echo_reaches : FloorRenamed → (stands : Member → Member → Bool) (places : ℕ) (events others : List Event) (n : ℕ) (these : Peer → Bool) (name : ℕ) (e f : Option (Member × StreamPacket)) → AreFreelyRenamed stands places events others → AreLikeEchoes stands e f → reaching these name (echo_items n (seats_at places events n) e) ≡ reaching these name (echo_items n (seats_at places others n) f)
echo_reaches law stands places events others n these name None None r h = refl
echo_reaches law stands places events others n these name (Some e) (Some f) r h =
    one_reaches stands these name (said.Echo n e.1) (said.Echo n f.1) (seat_of (seats_at places events n) e.0) (seat_of (seats_at places others n) f.0) (ap (λ p. packet_said (said.Echo n p) name) h.1) (seat_like law stands places events others n e.0 f.0 r h.0)
echo_reaches law stands places events others n these name None (Some f) r h = absurd h
echo_reaches law stands places events others n these name (Some e) None r h = absurd h

echoes_reach : FloorRenamed → (stands : Member → Member → Bool) (setup : Setup) (events others : List Event) (n : ℕ) (these : Peer → Bool) (name : ℕ) → AreFreelyRenamed stands setup.places events others → n ≤ length events → reaching these name (echoes_at setup events n) ≡ reaching these name (echoes_at setup others n)
unfolding echoes_at
echoes_reach law stands setup events others n these name r h =
    if_reaches these name setup.parrot _ _
    (echo_reaches law stands setup.places events others n these name (echo_at setup (acts_of events) n) (echo_at setup (acts_of others) n) r
    (echo_renamed law stands setup (acts_of events) (acts_of others) n (acts_renamed stands setup.places events others r) (omega (arith, length_acts events))))

-- what the event itself says
abbrev setting : List (Option Seat) → ℕ → ℕ → Bool → Setting
setting seats n link admitted = record { seats = seats; position = n; link = link; admitted = admitted }

one_hears_nothing : (these : Peer → Bool) (name : ℕ) (b : Bool) → cons_option (cond b None None) [] ≡ (let none : List Packet = [] in none)
one_hears_nothing these name true = refl
one_hears_nothing these name false = refl

replaced_hears_nothing : (these : Peer → Bool) (name : ℕ) (o : Option Seat) → reaching these name (to_one (said.Bye Replaced) o) ≡ []
replaced_hears_nothing these name None = refl
replaced_hears_nothing these name (Some s) = one_hears_nothing these name (these s.peer)

greeting : (these : Peer → Bool) (name : ℕ) (seats : List (Option Seat)) (seat : Seat) (after : ℕ) → seat.member.place < length seats → reaching these name (greets seats seat after) ≡ cons_option (cond (these seat.peer) (packet_said (said.Hello after) name) None) []
greeting these name seats seat after below =
    ap (λ b. reaching these name (cond b (to_one (said.Bye Replaced) (seat_in seats seat.member.place) ++ item_to (said.Hello after) seat ∷ []) [])) (lt-ltb seat.member.place (length seats) below)
    ∙ filter_map-append (packet_reaching these name) (to_one (said.Bye Replaced) (seat_in seats seat.member.place)) (item_to (said.Hello after) seat ∷ [])
    ∙ ap (λ xs. xs ++ cons_option (cond (these seat.peer) (packet_said (said.Hello after) name) None) []) (replaced_hears_nothing these name (seat_in seats seat.member.place))

frames_reach : FloorRenamed → (stands : Member → Member → Bool) (places : ℕ) (events others : List Event) (n : ℕ) (these : Peer → Bool) (name : ℕ) (k k' : Member) (p : StreamPacket) → AreFreelyRenamed stands places events others → stands k k' ≡ true → reaching these name (map (item_to (said.Frame n p)) (others_than k (seats_at places events n))) ≡ reaching these name (map (item_to (said.Frame n p)) (others_than k' (seats_at places others n)))
frames_reach law stands places events others n these name k k' p r h =
    let mine : Seat → Bool = λ (s : Seat). not (is_same s.member k) in
    let its : Seat → Bool = λ (s : Seat). not (is_same s.member k') in
    let who : Seat → Bool = λ (s : Seat). these s.peer in
    all_reach these name (said.Frame n p) (others_than k (seats_at places events n))
    ∙ ap (copies (packet_said (said.Frame n p) name))
    (count_filtered mine who (members_of (seats_at places events n))
    ∙ members_like law stands places events others n (λ s. mine s && who s) (λ s. its s && who s) r
    (λ s t like. ap (λ b. not b && these s.peer) (r.one_to_one.same s.member k t.member k' like.member h) ∙ ap (λ x. its t && these x) like.peer)
    ∙ sym (count_filtered its who (members_of (seats_at places others n))))
    ∙ sym (all_reach these name (said.Frame n p) (others_than k' (seats_at places others n)))

says_reach : FloorRenamed → (stands : Member → Member → Bool) (setup : Setup) (events others : List Event) (n : ℕ) (these : Peer → Bool) (name link : ℕ) (a b : Body) → AreFreelyRenamed stands setup.places events others → IsRenamedBody stands a b → kind_at (acts_of events) n ≡ kind_of a → kind_at (acts_of others) n ≡ kind_of b → reaching these name (says (setting_at setup events n link) a) ≡ reaching these name (says (setting_at setup others n link) b)
says_reach law stands setup events others n these name link (body.Join k x c l after) (body.Join k' x' c' l' after') r h e e' =
    let below : k.place < length (seats_at setup.places events n) = omega (arith, (free_acts setup.places events r.free n k l e).below, length_seats setup.places events n) in
    let below' : k'.place < length (seats_at setup.places others n) = omega (arith, (free_acts setup.places others r.free_others n k' l' e').below, length_seats setup.places others n) in
    greeting these name (seats_at setup.places events n) (record { member = k; link = link; peer = x; listens = l }) after below
    ∙ ap (λ peer. cons_option (cond (these peer) (packet_said (said.Hello after) name) None) []) h.1
    ∙ sym (greeting these name (seats_at setup.places others n) (record { member = k'; link = link; peer = x'; listens = l' }) after' below')
says_reach law stands setup events others n these name link (body.Leave k why) (body.Leave k' why') r h e e' =
    one_reaches stands these name (said.Bye why) (said.Bye why') (seat_of (seats_at setup.places events n) k) (seat_of (seats_at setup.places others n) k') (ap (λ w. packet_said (said.Bye w) name) h.1) (seat_like law stands setup.places events others n k k' r h.0)
says_reach law stands setup events others n these name link (body.Packet k p) (body.Packet k' p') r h e e' =
    ap (λ b. reaching these name (cond b (map (item_to (said.Frame n p)) (others_than k (seats_at setup.places events n))) [])) (admitted_renamed law stands setup (acts_of events) (acts_of others) n (acts_renamed stands setup.places events others r))
    ∙ if_reaches these name (is_admitted_at setup (acts_of others) n) _ _ (frames_reach law stands setup.places events others n these name k k' p r h.0)
    ∙ ap (λ q. reaching these name (cond (is_admitted_at setup (acts_of others) n) (map (item_to (said.Frame n q)) (others_than k' (seats_at setup.places others n))) [])) h.1
says_reach law stands setup events others n these name link (body.Reply k c) (body.Reply k' c') r h e e' =
    one_reaches stands these name (said.Reply c) (said.Reply c') (seat_of (seats_at setup.places events n) k) (seat_of (seats_at setup.places others n) k') (ap (λ w. packet_said (said.Reply w) name) h.1) (seat_like law stands setup.places events others n k k' r h.0)
says_reach law stands setup events others n these name link body.Tick body.Tick r h e e' = refl
says_reach law stands setup events others n these name link body.Stop body.Stop r h e e' = refl
says_reach law stands setup events others n these name link _ _ r h e e' = absurd h

said_reaches : FloorRenamed → (stands : Member → Member → Bool) (setup : Setup) (events others : List Event) (n : ℕ) (these : Peer → Bool) (name : ℕ) (a b : Option Event) → AreFreelyRenamed stands setup.places events others → IsRenamedAt stands a b → slice_get events n ≡ a → slice_get others n ≡ b → reaching these name (said_by setup events n a) ≡ reaching these name (said_by setup others n b)
said_reaches law stands setup events others n these name None None r h e e' = refl
said_reaches law stands setup events others n these name (Some a) (Some b) r h e e' =
    ap (λ t. reaching these name (says (setting_at setup events n t.link) a.body)) h.tag
    ∙ says_reach law stands setup events others n these name b.tag.link a.body b.body r h.what
    (kind_at_is events n ∙ ap kind_from e) (kind_at_is others n ∙ ap kind_from e')
said_reaches law stands setup events others n these name None (Some b) r h e e' = absurd h
said_reaches law stands setup events others n these name (Some a) None r h e e' = absurd h

three : (these : Peer → Bool) (name : ℕ) (xs ys zs : List Item) → reaching these name (xs ++ ys ++ zs) ≡ (reaching these name xs ++ reaching these name ys) ++ reaching these name zs
three these name xs ys zs =
    filter_map-append (packet_reaching these name) (xs ++ ys) zs ∙ ap (λ us. us ++ reaching these name zs) (filter_map-append (packet_reaching these name) xs ys)

-- all that an event gives
at_reaches : FloorRenamed → (stands : Member → Member → Bool) (setup : Setup) (events others : List Event) (n : ℕ) (these : Peer → Bool) (name : ℕ) → AreFreelyRenamed stands setup.places events others → n ≤ length events → reaching these name (items_at setup events n) ≡ reaching these name (items_at setup others n)
unfolding items_at said_at
at_reaches law stands setup events others n these name r h =
    three these name (pings_at setup.places events n) (echoes_at setup events n) (said_by setup events n (slice_get events n))
    ∙ ap (λ xs. (xs ++ reaching these name (echoes_at setup events n)) ++ reaching these name (said_by setup events n (slice_get events n))) (pings_reach law stands setup.places events others n these name r)
    ∙ ap (λ xs. (reaching these name (pings_at setup.places others n) ++ xs) ++ reaching these name (said_by setup events n (slice_get events n))) (echoes_reach law stands setup events others n these name r h)
    ∙ ap (λ xs. (reaching these name (pings_at setup.places others n) ++ reaching these name (echoes_at setup others n)) ++ xs) (said_reaches law stands setup events others n these name (slice_get events n) (slice_get others n) r (renamed_at stands events others n r.renamed) refl refl)
    ∙ sym (three these name (pings_at setup.places others n) (echoes_at setup others n) (said_by setup others n (slice_get others n)))

reaching_flat : (these : Peer → Bool) (name : ℕ) (f : ℕ → List Item) (ns : List ℕ) → reaching these name (flat_map f ns) ≡ flat_map (λ n. reaching these name (f n)) ns
reaching_flat these name f [] = refl
reaching_flat these name f (n ∷ ns) =
    filter_map-append (packet_reaching these name) (f n) (flat_map f ns) ∙ ap (λ xs. reaching these name (f n) ++ xs) (reaching_flat these name f ns)

-- The same packets reach these peers, in the same order.
pub items_renamed : FloorRenamed → RenamingChangesNothingSaid
unfolding items_given
items_renamed law stands setup events others r these name =
    let len : length events ≡ length others = length_renamed stands events others r.renamed in
    reaching_flat these name (items_at setup events) (range_with_len 0 (length events))
    ∙ flat_map_same (λ n. reaching these name (items_at setup events n)) (λ n. reaching these name (items_at setup others n)) 0 (length events) (λ n l. at_reaches law stands setup events others n these name r (omega arith))
    ∙ ap (λ m. flat_map (λ n. reaching these name (items_at setup others n)) (range_with_len 0 m)) len
    ∙ sym (reaching_flat these name (items_at setup others) (range_with_len 0 (length others)))
