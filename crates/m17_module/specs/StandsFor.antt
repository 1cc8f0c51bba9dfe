-- What the small state of a module stands for, out of the whole list of its events.
use Rattle.std.specs.Prelude.{◌≡◌, ℕ, List, [], ◌∷◌, ◌++◌, length, max, slice_get, Option, None, Some, if◌then◌else◌}
use Rattle.m17_control.specs.declared.event.Event.{Event}
use Rattle.m17_control.specs.declared.item.Item.{Item}
use Rattle.m17_floor.specs.declared.verdict.Verdict.{Verdict}
use Rattle.m17_floor.specs.Acts.{moment_before}
use Rattle.m17_floor.specs.Floor.{verdict_at, admitted_count}
use Rattle.m17_floor.specs.Rule.{Frame, FloorState}
use Rattle.m17_floor.specs.StandsFor.{FloorStandsFor, OwnStandsFor}
use Rattle.m17_module.specs.Recording.{Recording}
use Rattle.m17_module.specs.declared.seat.Seat.{Seat}
use Rattle.m17_module.specs.Setup.{Setup, floor_setup}
use Rattle.m17_module.specs.Events.{acts_of}
use Rattle.m17_module.specs.Seats.{seats_at}
use Rattle.m17_module.specs.Echoes.{recording_at}
use Rattle.m17_module.specs.Items.{items_at}

-- Who is in, place by place, the last admitted frame of each, and the floor: its frame and its limit.
pub record People : Type 0 where
  pub seats : List (Option Seat)
  pub lasts : List (Option Frame)
  pub floor : FloorState

-- They may have come from these events in a module that was made so.
pub record PeopleStandFor (setup : Setup) (people : People) (events : List Event) : Type 0 where
  -- the members are those that are in at the end
  pub seats : people.seats ≡ seats_at setup.places events (length events)
  -- each member's frame is its last admitted one since its Join, with the moment of its opening
  pub lasts : (place : ℕ) (seat : Seat) (last : Option Frame) →
      slice_get people.seats place ≡ Some (Some seat) → slice_get people.lasts place ≡ Some last →
      OwnStandsFor (floor_setup setup) (acts_of events) seat.member last
  -- the floor's frame is the last admitted one, unless its sender has left, with the moment of the last opening; and
  -- its limit is that of the module
  pub floor : FloorStandsFor (floor_setup setup) (acts_of events) people.floor

-- The event leads from the one people to the other: whatever events the one may have come from, the other may have
-- come from these and the event.
abbrev pub PeopleFollow : Event → People → People → Type 0
PeopleFollow event old new =
    (setup : Setup) (events : List Event) → PeopleStandFor setup old events →
    PeopleStandFor setup new (events ++ event ∷ [])

-- So does an event that comes at this moment of the module, and the answer is the verdict on it.
abbrev pub PeopleAnswer : Event → ℕ → Option Verdict → People → People → Type 0
PeopleAnswer event at answer old new =
    (setup : Setup) (events : List Event) →
    at ≡ max (moment_before (acts_of events) (length events)) event.at →
    PeopleStandFor setup old events → PeopleStandFor setup new (events ++ event ∷ [])
    × (answer ≡ verdict_at (floor_setup setup) (acts_of (events ++ event ∷ [])) (length events))

-- What a module keeps: how it was made, its moment, its people, how many events it has had and packets it has
-- admitted, and, as a parrot, what it has recorded.
pub record ModuleKept : Type 0 where
  pub setup : Setup
  pub moment : ℕ
  pub people : People
  pub count : ℕ
  pub admitted : ℕ
  pub recording : Option Recording

-- What a module has recorded of its events: nothing, unless it is a parrot.
abbrev pub recorded : Setup → List Event → Option Recording
recorded setup events =
    if setup.parrot then recording_at setup (acts_of events) (length events) else None

-- The module may have come from these events.
pub record StandsFor (kept : ModuleKept) (events : List Event) : Type 0 where
  pub moment : kept.moment ≡ moment_before (acts_of events) (length events)
  pub people : PeopleStandFor kept.setup kept.people events
  pub count : kept.count ≡ length events
  pub admitted : kept.admitted ≡ admitted_count (floor_setup kept.setup) (acts_of events)
  -- a parrot's recording is of what was opened last: its held frames, its close, and how many were given
  pub recording : kept.recording ≡ recorded kept.setup events

-- What came of a step: what it answered, what the module keeps then, and what it gave.
pub record Stepped : Type 0 where
  pub answer : Option Verdict
  pub kept : ModuleKept
  pub given : List Item

abbrev pub stepped : Option Verdict → ModuleKept → List Item → Stepped
stepped answer kept given = record { answer = answer; kept = kept; given = given }

-- The step by an event after these: the module then stands for the list with the event, what it gave is what the
-- event at this position gives, and its answer is the verdict there, which only a packet has.
pub record IsStep (setup : Setup) (events : List Event) (event : Event) (to : Stepped) : Type 0
  where
    pub stands : StandsFor to.kept (events ++ event ∷ [])
    pub items : to.given ≡ items_at setup (events ++ event ∷ []) (length events)
    pub verdict : to.answer
        ≡ verdict_at (floor_setup setup) (acts_of (events ++ event ∷ [])) (length events)
