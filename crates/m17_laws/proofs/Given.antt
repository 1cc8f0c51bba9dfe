-- Where a voice packet that a module gives comes from: a position where it is admitted, or an echo.
use Rattle.std.proofs.Common.{◌≡◌, ℕ, Bool, true, false, cond, List, [], ◌∷◌, ◌++◌, length, map, refl, sym, ap, ◌∙◌, subst, inl, inr, Option, None, Some, Contains, nat_lt}
use Rattle.std.specs.Prelude.{slice_get}
use Rattle.std.specs.List.{range_with_len}
use Rattle.std.specs.Option.{option_map}
use Rattle.std.proofs.lemmas.List.Elements.{Contains-append_cases}
use Rattle.std.proofs.lemmas.Option.{slice_get-map}
use Rattle.m17_lists.proofs.Contents.{nothing_is_in_none, is_the_only_one, is_mapped_from_one, is_given_by_one}
use Rattle.m17_values.specs.declared.member.Member.{Member}
use Rattle.m17_stream.specs.declared.packet.StreamPacket.{StreamPacket}
use Rattle.m17_control.specs.declared.event.Body.{Body}
use Rattle.m17_control.specs.declared.event.Body.TheVariants.{Join, Leave, Packet, Reply, Tick, Stop}
use Rattle.m17_control.specs.declared.event.Event.{Event}
use Rattle.m17_control.specs.declared.event.Why.TheVariants.{Asked, Moved, Silent, Stopped, Replaced}
use Rattle.m17_control.specs.declared.item.Item.{Item}
use Rattle.m17_control.specs.declared.item.Said.{Said}
use Rattle.m17_control.specs.declared.item.Said.TheVariants as said
use Rattle.m17_control.specs.declared.packet.Packet.TheVariants as packets
use Rattle.m17_control.specs.Spelled.{packet_said}
use Rattle.m17_floor.specs.Acts.{kind_at, kind_or_other}
use Rattle.m17_floor.specs.Laws.{IsAdmittedPacket}
use Rattle.m17_module.specs.declared.seat.Seat.{Seat}
use Rattle.m17_module.specs.Events.{act_of, acts_of, kind_of}
use Rattle.m17_module.specs.Seats.{members_of, others_than, seat_in, seat_of, seats_at}
use Rattle.m17_module.specs.Echoes.{echo_at}
use Rattle.m17_module.specs.Items.{Setting, Setup, floor_setup, echo_items, echoes_at, item_to, items_at, items_given, pings_at, said_at, said_by, says, setting_at, to_one}
use Rattle.m17_laws.specs.BothEnds.{GivesOut}

-- what is said is this voice packet, as a frame or as an echo
abbrev pub Speaks : StreamPacket → Said → Type 0
Speaks q (said.Frame n p) = p ≡ q
Speaks q (said.Echo n p) = p ≡ q
Speaks q body = ⊥

-- what spells a voice packet speaks it
pub speaks : (q : StreamPacket) (body : Said) (name : ℕ) → packet_said body name ≡ Some (packets.Stream q)
    → Speaks q body
speaks q (said.Hello after) name e = absurd cc
speaks q (said.Frame n p) name e = let same : p ≡ q = cc in same
speaks q (said.Echo n p) name e = let same : p ≡ q = cc in same
speaks q (said.Reply control) name e = absurd cc
speaks q said.Ping name e = absurd cc
speaks q (said.Bye Asked) name e = absurd cc
speaks q (said.Bye Silent) name e = absurd cc
speaks q (said.Bye Stopped) name e = absurd cc
speaks q (said.Bye Moved) name e = absurd cc
speaks q (said.Bye Replaced) name e = absurd cc

abbrev body_of : Item → Said
body_of item = item.body

-- one who may be there is told this, or nobody
to_one_is : (what : Said) (seat : Option Seat) (item : Item) → Contains (to_one what seat) item → what ≡ item.body
to_one_is what None item h = absurd (nothing_is_in_none item h)
to_one_is what (Some seat) item h = ap body_of (is_the_only_one (item_to what seat) item h)

all_told : (what : Said) (seats : List Seat) (item : Item) → Contains (map (item_to what) seats) item
    → what ≡ item.body
all_told what seats item h = let (seat, there, is) = is_mapped_from_one (item_to what) seats item h in ap body_of is

-- no ping speaks
ping_is_silent : (b : Bool) (seats : List Seat) (item : Item) (q : StreamPacket)
    → Contains (cond b (map (item_to said.Ping) seats) []) item → Speaks q item.body → ⊥
ping_is_silent true seats item q h speak = subst (Speaks q) (sym (all_told said.Ping seats item h)) speak
ping_is_silent false seats item q h speak = nothing_is_in_none item h

-- an echo speaks what is echoed
echo_speaks : (n : ℕ) (seats : List (Option Seat)) (echo : Option (Member × StreamPacket)) (item : Item)
    (q : StreamPacket) → Contains (echo_items n seats echo) item → Speaks q item.body
    → (k : Member) × (echo ≡ Some (k, q))
echo_speaks n seats None item q h speak = absurd (nothing_is_in_none item h)
echo_speaks n seats (Some e) item q h speak =
    let same : e.1 ≡ q =
    subst (Speaks q) (sym (to_one_is (said.Echo n e.1) (seat_of seats e.0) item h)) speak in
    (e.0, ap (λ (p : StreamPacket). Some (e.0, p)) same)

echoes_speak : (b : Bool) (n : ℕ) (seats : List (Option Seat)) (echo : Option (Member × StreamPacket)) (item : Item)
    (q : StreamPacket) → Contains (cond b (echo_items n seats echo) []) item → Speaks q item.body
    → (k : Member) × (b ≡ true) × (echo ≡ Some (k, q))
echoes_speak true n seats echo item q h speak = let (k, e) = echo_speaks n seats echo item q h speak in (k, refl, e)
echoes_speak false n seats echo item q h speak = absurd (nothing_is_in_none item h)

greets_no_voice : (b : Bool) (old : Option Seat) (seat : Seat) (after : ℕ) (item : Item) (q : StreamPacket)
    → Contains (cond b (to_one (said.Bye Replaced) old ++ item_to (said.Hello after) seat ∷ []) []) item
    → Speaks q item.body → ⊥
greets_no_voice true old seat after item q h speak =
    elim (Contains-append_cases (to_one (said.Bye Replaced) old) (item_to (said.Hello after) seat ∷ []) item h) [
      | inl bye ↦ subst (Speaks q) (sym (to_one_is (said.Bye Replaced) old item bye)) speak
      | inr hello ↦ subst (Speaks q) (sym (ap body_of (is_the_only_one (item_to (said.Hello after) seat) item hello))) speak
    ]
greets_no_voice false old seat after item q h speak = nothing_is_in_none item h

frames_speak : (b : Bool) (n : ℕ) (p : StreamPacket) (seats : List Seat) (item : Item) (q : StreamPacket)
    → Contains (cond b (map (item_to (said.Frame n p)) seats) []) item → Speaks q item.body
    → (p ≡ q) × (b ≡ true)
frames_speak true n p seats item q h speak =
    (subst (Speaks q) (sym (all_told (said.Frame n p) seats item h)) speak, refl)
frames_speak false n p seats item q h speak = absurd (nothing_is_in_none item h)

-- what an event says is a voice packet only where it is one that is admitted
event_speaks : (now : Setting) (body : Body) (item : Item) (q : StreamPacket) → Contains (says now body) item
    → Speaks q item.body → (k : Member) × (body ≡ Packet k q) × (now.admitted ≡ true)
event_speaks now (Join k peer callsign listens after) item q h speak =
    absurd (greets_no_voice (nat_lt k.place (length now.seats)) (seat_in now.seats k.place)
    (record { member = k; link = now.link; peer = peer; listens = listens }) after item q h speak)
event_speaks now (Leave k why) item q h speak =
    absurd (subst (Speaks q) (sym (to_one_is (said.Bye why) (seat_of now.seats k) item h)) speak)
event_speaks now (Packet k p) item q h speak =
    let (same, admitted) = frames_speak now.admitted now.position p (others_than k now.seats) item q h speak in
    (k, ap (Packet k) same, admitted)
event_speaks now (Reply k control) item q h speak =
    absurd (subst (Speaks q) (sym (to_one_is (said.Reply control) (seat_of now.seats k) item h)) speak)
event_speaks now Tick item q h speak = absurd (nothing_is_in_none item h)
event_speaks now Stop item q h speak = absurd (nothing_is_in_none item h)

kind_there : (events : List Event) (n : ℕ) (event : Event) → slice_get events n ≡ Some event
    → kind_at (acts_of events) n ≡ kind_of event.body
kind_there events n event e =
    ap kind_or_other (slice_get-map act_of events n ∙ ap (λ (o : Option Event). option_map act_of o) e)

position_speaks : (setup : Setup) (events : List Event) (n : ℕ) (o : Option Event) (item : Item) (q : StreamPacket)
    → slice_get events n ≡ o → Contains (said_by setup events n o) item → Speaks q item.body
    → (k : Member) × IsAdmittedPacket (floor_setup setup) (acts_of events) n k q
position_speaks setup events n None item q e h speak = absurd (nothing_is_in_none item h)
position_speaks setup events n (Some event) item q e h speak =
    let (k, is, admitted) = event_speaks (setting_at setup events n event.tag.link) event.body item q h speak in
    (k, record { packet_is = kind_there events n event e ∙ ap kind_of is; admitted = admitted })

-- so it is with all that a position gives, and with all that is given
at_position : (setup : Setup) (events : List Event) (n : ℕ) (item : Item) (q : StreamPacket)
    → Contains (items_at setup events n) item → Speaks q item.body → GivesOut setup events n q
unfolding items_at pings_at echoes_at said_at
at_position setup events n item q h speak =
    elim (Contains-append_cases (pings_at setup.places events n ++ echoes_at setup events n)
    (said_at setup events n) item h) [
      | inl before ↦ elim (Contains-append_cases (pings_at setup.places events n) (echoes_at setup events n) item before) [
        | inl ping ↦ absurd (ping_is_silent _ (members_of (seats_at setup.places events n)) item q ping speak)
        | inr echo ↦
            let (k, parrot, e) = echoes_speak setup.parrot n (seats_at setup.places events n)
            (echo_at setup (acts_of events) n) item q echo speak in
            (k, inr (parrot, e))
      ]
      | inr own ↦
          let (k, is) = position_speaks setup events n (slice_get events n) item q refl own speak in
          (k, inl is)
    ]

pub gives_out : (setup : Setup) (events : List Event) (item : Item) (q : StreamPacket)
    → Contains (items_given setup events) item → Speaks q item.body
    → (n : ℕ) × GivesOut setup events n q
unfolding items_given
gives_out setup events item q h speak =
    let (n, there, at_n) = is_given_by_one (items_at setup events) (range_with_len 0 (length events)) item h in
    (n, at_position setup events n item q at_n speak)
