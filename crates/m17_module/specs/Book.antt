-- What a module's book keeps of its events, act by act. Positions count from 0.
use Rattle.std.specs.Prelude.{ℕ, ◌≤◌, List, [], ◌∷◌, ◌++◌, length, slice_get, nat_lt, Option, None, Some, if◌then◌else◌}
use Rattle.std.specs.List.{flat_map, range_with_len}
use Rattle.m17_control.specs.declared.event.Body.{Body}
use Rattle.m17_control.specs.declared.event.Body.TheVariants.{Join, Leave, Packet, Reply, Tick, Stop}
use Rattle.m17_control.specs.declared.event.Event.{Event}
use Rattle.m17_floor.specs.declared.verdict.Verdict.{Verdict}
use Rattle.m17_floor.specs.Acts.{moment_at}
use Rattle.m17_floor.specs.Floor.{verdict_at}
use Rattle.m17_floor.specs.Legal.{KeptAct, book_places, IsLegal}
use Rattle.m17_floor.specs.StandsFor.{packet_act, join_act, leave_act}
use Rattle.m17_module.specs.declared.seat.Seat.{Seat}
use Rattle.m17_module.specs.Setup.{Setup, floor_setup}
use Rattle.m17_module.specs.Events.{acts_of}
use Rattle.m17_module.specs.Seats.{seats_at, seat_in, seat_of}

-- What a position is kept by: the number of the module's places, the moment there, who is in before it, and the
-- verdict, which a packet alone has.
pub record Keeping : Type 0 where
  pub places : ℕ
  pub moment : ℕ
  pub seats : List (Option Seat)
  pub verdict : Option Verdict

-- who leaves is kept with a Leave
abbrev pub leave_kept : ℕ → Option Seat → List KeptAct
leave_kept at None = []
leave_kept at (Some seat) = record { act = leave_act at seat.member; verdict = None } ∷ []

-- Who joins one of the places is kept, behind the Leave of who is in there; who leaves, if it is in; and each packet,
-- with its verdict. All else is left out.
abbrev pub kept_by : Keeping → Body → List KeptAct
kept_by now (Join k peer callsign listens after) =
    if nat_lt k.place now.places
    then leave_kept now.moment (seat_in now.seats k.place)
    ++ record { act = join_act now.moment k listens; verdict = None } ∷ []
    else []
kept_by now (Leave k why) = leave_kept now.moment (seat_of now.seats k)
kept_by now (Packet k p) =
    record { act = packet_act now.moment k p; verdict = now.verdict } ∷ []
kept_by now (Reply k control) = []
kept_by now Tick = []
kept_by now Stop = []

-- position n, in a module that was made so
abbrev pub keeping_at : Setup → List Event → ℕ → Keeping
keeping_at setup events n = record {
  places = setup.places;
  moment = moment_at (acts_of events) n;
  seats = seats_at setup.places events n;
  verdict = verdict_at (floor_setup setup) (acts_of events) n;
}

abbrev pub kept_from : Setup → List Event → ℕ → Option Event → List KeptAct
kept_from setup events n None = []
kept_from setup events n (Some event) = kept_by (keeping_at setup events n) event.body

-- What is kept of position n, and of all the events, in order.
unfoldable pub kept_at : Setup → List Event → ℕ → List KeptAct
kept_at setup events n = kept_from setup events n (slice_get events n)

unfoldable pub kept_of : Setup → List Event → List KeptAct
kept_of setup events = flat_map (kept_at setup events) (range_with_len 0 (length events))

-- Under whatever limit a module of at most 256 places is made, it keeps a book of every list of events that is legal
-- under that limit.
abbrev pub RecordsAreLegal : Type 0
RecordsAreLegal =
    (setup : Setup) (events : List Event) → setup.places ≤ book_places →
    IsLegal setup.limit (kept_of setup events)
