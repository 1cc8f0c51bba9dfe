-- An event of a module says one Bye at the most, and then its only record of a Leave is of that.
use Rattle.std.proofs.Common.{◌≡◌, ℕ, ◌/◌, Bool, true, false, cond, List, [], ◌∷◌, ◌++◌, length, map, slice_get, nat_lt, Option, None, Some, refl, ap, sym, ◌∙◌}
use Rattle.std.specs.Prelude.{is_some, filter, option_and_then}
use Rattle.std.specs.Option.{option_map, option_to_list}
use Rattle.std.specs.List.{filter_map, cons_option}
use Rattle.std.proofs.lemmas.List.{append-nil}
use Rattle.std.proofs.lemmas.List.Elements.{filter-append}
use Rattle.m17_values.specs.declared.member.Member.{Member}
use Rattle.m17_stream.specs.declared.packet.StreamPacket.{StreamPacket}
use Rattle.m17_control.specs.declared.event.Tag.{Tag}
use Rattle.m17_control.specs.declared.event.Body.{Body}
use Rattle.m17_control.specs.declared.event.Body.TheVariants.{Join, Leave, Packet, Reply, Tick, Stop}
use Rattle.m17_control.specs.declared.event.Event.{Event}
use Rattle.m17_control.specs.declared.event.Why.{Why}
use Rattle.m17_control.specs.declared.event.Why.TheVariants.{Replaced}
use Rattle.m17_control.specs.declared.item.Item.{Item}
use Rattle.m17_control.specs.declared.item.Said.{Said}
use Rattle.m17_control.specs.declared.item.Said.TheVariants as said
use Rattle.m17_floor.specs.Acts.{moment_before, moment_at}
use Rattle.m17_module.specs.declared.seat.Seat.{Seat}
use Rattle.m17_module.specs.Events.{acts_of}
use Rattle.m17_module.specs.Seats.{seats_at, members_of, seat_in, seat_of, others_than}
use Rattle.m17_module.specs.Echoes.{echo_at}
use Rattle.m17_module.specs.Items.{Setup, Setting, item_to, to_one, says, pings_at, echo_items, echoes_at, said_by, said_at, setting_at, items_at, ping_every_ms}
use Rattle.m17_book.specs.declared.record.Record.{Record}
use Rattle.m17_book.specs.declared.record.Record.TheVariants as records
use Rattle.m17_worker.specs.Gifts.{why_left, is_bye}
use Rattle.m17_worker.specs.Records.{leave_record}

-- the Byes among items
abbrev pub byes : List Item → List Item
byes items = filter is_bye items

-- there is one at the most
abbrev pub IsFew : List Item → Type 0
IsFew items = (bye : Option Item) × (byes items ≡ option_to_list bye)

no_byes_all : (what : Said) → is_some (why_left what) ≡ false → (seats : List Seat) → byes (map (item_to what) seats) ≡ []
no_byes_all what none [] = refl
no_byes_all what none (seat ∷ seats) =
    ap (λ b. cond b (item_to what seat ∷ byes (map (item_to what) seats)) (byes (map (item_to what) seats))) none
    ∙ no_byes_all what none seats

no_byes_if : (b : Bool) (xs : List Item) → byes xs ≡ [] → byes (cond b xs []) ≡ []
no_byes_if true xs h = h
no_byes_if false xs h = refl

no_pings : (places : ℕ) (events : List Event) (n : ℕ) → byes (pings_at places events n) ≡ []
unfolding pings_at
no_pings places events n =
    no_byes_if (nat_lt (moment_before (acts_of events) n / ping_every_ms) (moment_at (acts_of events) n / ping_every_ms))
    (map (item_to said.Ping) (members_of (seats_at places events n)))
    (no_byes_all said.Ping refl (members_of (seats_at places events n)))

no_byes_one : (what : Said) → is_some (why_left what) ≡ false → (o : Option Seat) → byes (to_one what o) ≡ []
no_byes_one what none None = refl
no_byes_one what none (Some seat) = ap (λ b. cond b (item_to what seat ∷ []) []) none

no_echo_items : (n : ℕ) (seats : List (Option Seat)) (o : Option (Member × StreamPacket)) → byes (echo_items n seats o) ≡ []
no_echo_items n seats None = refl
no_echo_items n seats (Some echo) = no_byes_one (said.Echo n echo.1) refl (seat_of seats echo.0)

no_echoes : (setup : Setup) (events : List Event) (n : ℕ) → byes (echoes_at setup events n) ≡ []
unfolding echoes_at
no_echoes setup events n =
    no_byes_if setup.parrot (echo_items n (seats_at setup.places events n) (echo_at setup (acts_of events) n))
    (no_echo_items n (seats_at setup.places events n) (echo_at setup (acts_of events) n))

-- a Bye to somebody, or nobody
one_bye : (why : Why) (o : Option Seat) → IsFew (to_one (said.Bye why) o)
one_bye why None = (None, refl)
one_bye why (Some seat) = (Some (item_to (said.Bye why) seat), refl)

few_then : (xs ys : List Item) → byes ys ≡ [] → IsFew xs → IsFew (xs ++ ys)
few_then xs ys none h = (h.0, filter-append is_bye xs ys ∙ ap (λ l. byes xs ++ l) none ∙ append-nil (byes xs) ∙ h.1)

then_few : (xs ys : List Item) → byes xs ≡ [] → IsFew ys → IsFew (xs ++ ys)
then_few xs ys none h = (h.0, filter-append is_bye xs ys ∙ ap (λ l. l ++ byes ys) none ∙ h.1)

few_if : (b : Bool) (xs : List Item) → IsFew xs → IsFew (cond b xs [])
few_if true xs h = h
few_if false xs h = (None, refl)

few_said : (now : Setting) (body : Body) → IsFew (says now body)
few_said now (Join k peer callsign listens after) =
    let seat : Seat = record { member = k; link = now.link; peer = peer; listens = listens } in
    few_if (nat_lt k.place (length now.seats))
    (to_one (said.Bye Replaced) (seat_in now.seats k.place) ++ item_to (said.Hello after) seat ∷ [])
    (few_then (to_one (said.Bye Replaced) (seat_in now.seats k.place)) (item_to (said.Hello after) seat ∷ []) refl
    (one_bye Replaced (seat_in now.seats k.place)))
few_said now (Leave k why) = one_bye why (seat_of now.seats k)
few_said now (Packet k p) = (
  None,
  no_byes_if now.admitted (map (item_to (said.Frame now.position p)) (others_than k now.seats))
      (no_byes_all (said.Frame now.position p) refl (others_than k now.seats)),
)
few_said now (Reply k control) = (None, no_byes_one (said.Reply control) refl (seat_of now.seats k))
few_said now Tick = (None, refl)
few_said now Stop = (None, refl)

few_by : (setup : Setup) (events : List Event) (n : ℕ) (o : Option Event) → IsFew (said_by setup events n o)
few_by setup events n None = (None, refl)
few_by setup events n (Some event) = few_said (setting_at setup events n event.tag.link) event.body

few_said_at : (setup : Setup) (events : List Event) (n : ℕ) → IsFew (said_at setup events n)
unfolding said_at
few_said_at setup events n = few_by setup events n (slice_get events n)

pub few_byes : (setup : Setup) (events : List Event) (n : ℕ) → IsFew (items_at setup events n)
unfolding items_at
few_byes setup events n =
    let none : byes (pings_at setup.places events n ++ echoes_at setup events n) ≡ [] =
    filter-append is_bye (pings_at setup.places events n) (echoes_at setup events n)
    ∙ ap (λ l. l ++ byes (echoes_at setup events n)) (no_pings setup.places events n)
    ∙ no_echoes setup events n in
    then_few (pings_at setup.places events n ++ echoes_at setup events n) (said_at setup events n) none (few_said_at setup events n)

-- the records of Leaves are those of the Byes
module _ (f : Item → Option Record) (other : (item : Item) → is_bye item ≡ false → f item ≡ None) where
  kept_one : (item : Item) (b : Bool) (xs : List Item) → b ≡ is_bye item → filter_map f xs ≡ filter_map f (byes xs)
      → cons_option (f item) (filter_map f xs) ≡ filter_map f (cond b (item ∷ byes xs) (byes xs))
  kept_one item true xs is h = ap (cons_option (f item)) h
  kept_one item false xs is h = ap (λ o. cons_option o (filter_map f xs)) (other item (sym is)) ∙ h

  kept : (items : List Item) → filter_map f items ≡ filter_map f (byes items)
  kept [] = refl
  kept (item ∷ items) = kept_one item (is_bye item) items refl (kept items)

listed : (o : Option Record) → cons_option o [] ≡ option_to_list o
listed None = refl
listed (Some r) = refl

one_kept : (f : Item → Option Record) (o : Option Item) → filter_map f (option_to_list o) ≡ option_to_list (option_and_then f o)
one_kept f None = refl
one_kept f (Some item) = listed (f item)

no_leave : (tag : Tag) (moment : ℕ) (item : Item) (o : Option Why) → is_some o ≡ false
    → option_map (λ why. records.Leave tag moment item.member why) o ≡ None
no_leave tag moment item None h = refl
no_leave tag moment item (Some why) h = absurd (cc h)

pub leaves_are : (tag : Tag) (moment : ℕ) (items : List Item) (bye : Option Item) → byes items ≡ option_to_list bye
    → filter_map (leave_record tag moment) items ≡ option_to_list (option_and_then (leave_record tag moment) bye)
leaves_are tag moment items bye h =
    kept (leave_record tag moment) (λ item e. no_leave tag moment item (why_left item.body) e) items
    ∙ ap (filter_map (leave_record tag moment)) h
    ∙ one_kept (leave_record tag moment) bye
