-- What each event of a module gives to whom, in order.
use Rattle.std.specs.Prelude.{ℕ, ◌/◌, Bool, false, List, [], ◌∷◌, ◌++◌, length, map, filter, slice_get, nat_lt, Option, None, Some, if◌then◌else◌}
use Rattle.std.specs.List.{flat_map, range_with_len}
use Rattle.m17_values.specs.declared.member.Member.{Member}
use Rattle.m17_stream.specs.declared.packet.StreamPacket.{StreamPacket}
use Rattle.m17_control.specs.declared.event.Body.{Body}
use Rattle.m17_control.specs.declared.event.Body.TheVariants.{Join, Leave, Packet, Reply, Tick, Stop}
use Rattle.m17_control.specs.declared.event.Event.{Event}
use Rattle.m17_control.specs.declared.event.Why.TheVariants.{Replaced}
use Rattle.m17_control.specs.declared.item.Item.{Item}
use Rattle.m17_control.specs.declared.item.Said.{Said}
use Rattle.m17_control.specs.declared.item.Said.TheVariants as said
use Rattle.m17_floor.specs.Acts.{is_same, moment_before, moment_at}
use Rattle.m17_floor.specs.Floor.{admits, verdict_at}
use Rattle.m17_module.specs.declared.seat.Seat.{Seat}
pub use Rattle.m17_module.specs.Setup.{Setup, floor_setup}
use Rattle.m17_module.specs.Events.{acts_of}
use Rattle.m17_module.specs.Seats.{seats_at, members_of, seat_in, seat_of, others_than}
use Rattle.m17_module.specs.Echoes.{echo_at}

-- Members are asked whether they are there each time the moment passes a multiple of 3,000 ms.
abbrev pub ping_every_ms : ℕ
ping_every_ms = 3000

-- What is said to a member goes to the peer and the link of its Join.
abbrev pub item_to : Said → Seat → Item
item_to what seat =
    record { member = seat.member; link = seat.link; peer = seat.peer; body = what }

abbrev pub to_one : Said → Option Seat → List Item
to_one what None = []
to_one what (Some seat) = item_to what seat ∷ []

-- What a position is known by: who is in before it, the number of the position, the link of its event, and
-- whether its packet is admitted.
pub record Setting : Type 0 where
  pub seats : List (Option Seat)
  pub position : ℕ
  pub link : ℕ
  pub admitted : Bool

-- Who joins takes a place of the module: who is in there leaves first, with a Bye, and then comes the Hello. At a
-- place that is none of the module's nothing happens.
abbrev pub greets : List (Option Seat) → Seat → ℕ → List Item
greets seats seat after =
    if nat_lt seat.member.place (length seats)
    then to_one (said.Bye Replaced) (seat_in seats seat.member.place)
    ++ item_to (said.Hello after) seat ∷ []
    else []

-- What an event says by what it is: to the member that a Join replaces and to the new one, to a member that
-- leaves, to all but the sender of an admitted packet, and to one that is answered.
abbrev pub says : Setting → Body → List Item
says now (Join k peer callsign listens after) =
    greets now.seats (record { member = k; link = now.link; peer = peer; listens = listens }) after
says now (Leave k why) = to_one (said.Bye why) (seat_of now.seats k)
says now (Packet k p) =
    if now.admitted then map (item_to (said.Frame now.position p)) (others_than k now.seats) else []
says now (Reply k control) = to_one (said.Reply control) (seat_of now.seats k)
says now Tick = []
says now Stop = []

-- Position n, in a module that was made so.
abbrev pub setting_at : Setup → List Event → ℕ → ℕ → Setting
setting_at setup events n link = record {
  seats = seats_at setup.places events n;
  position = n;
  link = link;
  admitted = admits (verdict_at (floor_setup setup) (acts_of events) n);
}

-- The first part: where the moment passes a multiple of 3,000 ms, a Ping for each member that is in, in order
-- of place.
unfoldable pub pings_at : ℕ → List Event → ℕ → List Item
pings_at places events n =
    if nat_lt (moment_before (acts_of events) n / ping_every_ms)
    (moment_at (acts_of events) n / ping_every_ms)
    then map (item_to said.Ping) (members_of (seats_at places events n))
    else []

-- The second part: in a parrot module, what it plays back at position n, to the member whose recording it is.
abbrev pub echo_items : ℕ → List (Option Seat) → Option (Member × StreamPacket) → List Item
echo_items n seats None = []
echo_items n seats (Some echo) = to_one (said.Echo n echo.1) (seat_of seats echo.0)

unfoldable pub echoes_at : Setup → List Event → ℕ → List Item
echoes_at setup events n =
    if setup.parrot
    then echo_items n (seats_at setup.places events n) (echo_at setup (acts_of events) n)
    else []

-- The third part: what the event itself says.
abbrev pub said_by : Setup → List Event → ℕ → Option Event → List Item
said_by setup events n None = []
said_by setup events n (Some event) = says (setting_at setup events n event.tag.link) event.body

unfoldable pub said_at : Setup → List Event → ℕ → List Item
said_at setup events n = said_by setup events n (slice_get events n)

-- What the event at position n gives, in order.
unfoldable pub items_at : Setup → List Event → ℕ → List Item
items_at setup events n =
    pings_at setup.places events n ++ echoes_at setup events n ++ said_at setup events n

-- All that the events give, in order.
unfoldable pub items_given : Setup → List Event → List Item
items_given setup events = flat_map (items_at setup events) (range_with_len 0 (length events))

-- The share of a member: all that is for it, in order.
abbrev pub is_for : Member → Item → Bool
is_for k item = is_same item.member k

unfoldable pub items_for : Setup → List Event → Member → List Item
items_for setup events k = filter (is_for k) (items_given setup events)

-- The frames among what is for a member, in order.
abbrev pub is_frame : Said → Bool
is_frame (said.Frame position packet) = Bool.true
is_frame _ = false

unfoldable pub frames_for : Setup → List Event → Member → List Item
frames_for setup events k = filter (λ item. is_frame item.body) (items_for setup events k)
