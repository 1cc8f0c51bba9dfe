-- Who is in a module before a position of its events, place by place. Positions count from 0.
use Rattle.std.specs.Prelude.{ℕ, ◌==◌, Bool, false, not, List, map, filter, slice_get, slice_index_or, Option, None, Some, option_and_then, if◌then◌else◌}
use Rattle.std.specs.List.{filter_map, range_with_len}
use Rattle.m17_values.specs.declared.member.Member.{Member}
use Rattle.m17_control.specs.declared.event.Body.{Body}
use Rattle.m17_control.specs.declared.event.Body.TheVariants.{Join}
use Rattle.m17_control.specs.declared.event.Event.{Event}
use Rattle.m17_lookup.specs.Lookup.{last_below}
use Rattle.m17_floor.specs.Acts.{is_same, joined_at}
use Rattle.m17_module.specs.declared.seat.Seat.{Seat}
use Rattle.m17_module.specs.Events.{acts_of}

-- The member that a Join brings in, with the link and peer that it names.
abbrev pub seat_joined : ℕ → Body → Option Seat
seat_joined link (Join k peer callsign listens after) =
    Some (record { member = k; link = link; peer = peer; listens = listens })
seat_joined link _ = None

-- The same of an event; of no event nobody.
abbrev pub seat_from : Option Event → Option Seat
seat_from None = None
seat_from (Some event) = seat_joined event.tag.link event.body

-- The event at a position brings a member in at this place.
abbrev pub is_at : ℕ → Option Seat → Bool
is_at place None = false
is_at place (Some seat) = seat.member.place == place

-- This is the position.
abbrev pub is_position : ℕ → Option ℕ → Bool
is_position j None = false
is_position j (Some i) = i == j

-- The seat, if its member is in before position n by its Join at position j.
abbrev pub if_in_by : ℕ → List Event → ℕ → ℕ → Option Seat → Option Seat
if_in_by places events n j None = None
if_in_by places events n j (Some seat) =
    if is_position j (joined_at places (acts_of events) seat.member n) then Some seat else None

-- The position of the last Join at a place below position n.
unfoldable pub last_join : List Event → ℕ → ℕ → Option ℕ
last_join events n place = last_below (λ j. is_at place (seat_from (slice_get events j))) n

-- Who is in at a place before position n: whom the last Join there brought in, if it is in still.
unfoldable pub seat_at : ℕ → List Event → ℕ → ℕ → Option Seat
seat_at places events n place =
    option_and_then (λ j. if_in_by places events n j (seat_from (slice_get events j)))
    (last_join events n place)

-- Of each of the module's places, who is in there before position n.
unfoldable pub seats_at : ℕ → List Event → ℕ → List (Option Seat)
seats_at places events n = map (seat_at places events n) (range_with_len 0 places)

-- Who is in, in order of place.
abbrev pub members_of : List (Option Seat) → List Seat
members_of seats = filter_map (λ seat. seat) seats

-- Who is in at a place; past the places nobody.
abbrev pub seat_in : List (Option Seat) → ℕ → Option Seat
seat_in seats place = slice_index_or seats place None

-- The seat, if it is this member's.
abbrev pub if_of : Member → Option Seat → Option Seat
if_of k None = None
if_of k (Some seat) = if is_same seat.member k then Some seat else None

-- The member's seat, if it is in.
abbrev pub seat_of : List (Option Seat) → Member → Option Seat
seat_of seats k = if_of k (seat_in seats k.place)

-- Who is in but this member, in order of place.
abbrev pub others_than : Member → List (Option Seat) → List Seat
others_than k seats = filter (λ seat. not (is_same seat.member k)) (members_of seats)
