-- What modules and mouth stand for when some dispatches of a link were carried out.
use Rattle.std.specs.Prelude.{◌≡◌, ℕ, ◌-◌, true, false, List, [], ◌∷◌, ◌++◌, length, map, slice_get, Option, None, Some}
use Rattle.std.specs.List.{filter_map, flat_map}
use Rattle.std.specs.Option.{option_or}
use Rattle.m17_values.specs.declared.peer.Peer.{Peer}
use Rattle.m17_control.specs.declared.event.Event.{Event}
use Rattle.m17_control.specs.declared.packet.Packet.{Packet}
use Rattle.m17_control.specs.declared.packet.Packet.TheVariants as packets
use Rattle.m17_control.specs.Modules.{serves, letters_of}
use Rattle.m17_floor.specs.declared.verdict.Verdict.{Verdict}
use Rattle.m17_floor.specs.Floor.{verdict_at}
use Rattle.m17_module.specs.Events.{acts_of}
use Rattle.m17_module.specs.Setup.{floor_setup}
use Rattle.m17_module.specs.Items.{items_given}
use Rattle.m17_module.specs.StandsFor.{ModuleKept, StandsFor}
use Rattle.m17_directory.specs.declared.dispatch.Dispatch.{Dispatch}
use Rattle.m17_directory.specs.declared.dispatch.Dispatch.TheVariants.{ToModule, ToDoor}
use Rattle.m17_directory.specs.Routed.{event_for, reply_for}
use Rattle.m17_port_memory.specs.Kept.{TalliesKept}
use Rattle.m17_plan.specs.declared.plan.Plan.{Plan}
use Rattle.m17_house.specs.Replay.{packet_to}
use Rattle.m17_plan.specs.Planned.{module_setup}
use Rattle.m17_house.specs.Tallied.{AreTalliesOf}

-- the events for a module among dispatches
abbrev pub events_of : ℕ → List Dispatch → List Event
events_of letter done = filter_map (event_for letter) done

-- what is said to a peer, by a module and in all, when these dispatches were carried out
abbrev pub said_by_events : Plan → Peer → ℕ → List Event → List Packet
said_by_events plan x letter events =
    filter_map (packet_to x plan.name) (items_given (module_setup plan letter) events)

abbrev pub said_past_modules : Peer → List Dispatch → List Packet
said_past_modules x done = map packets.Control (filter_map (reply_for x) done)

unfoldable pub said_after : Plan → List Dispatch → Peer → List Packet
said_after plan done x = said_past_modules x done
    ++ flat_map (λ letter. said_by_events plan x letter (events_of letter done))
    (letters_of plan.modules)

-- what there is in the cell of a letter that was not made yet: nothing, or a new module
abbrev pub IsNewRoom : Plan → ℕ → Option ModuleKept → Type 0
IsNewRoom plan letter None = serves plan.modules letter ≡ false
IsNewRoom plan letter (Some kept) = (kept.setup ≡ module_setup plan letter) × StandsFor kept []

-- the module with this letter stands for these events, in the cell of its letter
pub record RoomStands (plan : Plan) (letter : ℕ) (events : List Event) (rooms : List (Option ModuleKept))
    : Type 0 where
  pub kept : ModuleKept
  pub is_there : slice_get rooms (letter - 65) ≡ Some (Some kept)
  pub setup : kept.setup ≡ module_setup plan letter
  pub stands : StandsFor kept events

-- the step of a module by one event more: where it then stands, and the verdict on it, or else the one that was found
-- before
pub record IsRoomStep (plan : Plan) (letter : ℕ) (events : List Event) (event : Event)
    (found : Option Verdict) (after : List (Option ModuleKept) × Option Verdict) : Type 0 where
  pub stands : RoomStands plan letter (events ++ event ∷ []) after.0
  pub verdict : after.1
      ≡ option_or (verdict_at (floor_setup (module_setup plan letter))
      (acts_of (events ++ event ∷ [])) (length events)) found

-- The modules stand for what these dispatches have for them, and the tallies are of what is said by then.
pub record HasCarried (plan : Plan) (done : List Dispatch) (rooms : List (Option ModuleKept))
    (mouth : TalliesKept) : Type 0 where
  pub rooms_stand : (letter : ℕ) → serves plan.modules letter ≡ true →
      RoomStands plan letter (events_of letter done) rooms
  pub tallies : AreTalliesOf (said_after plan done) mouth

-- the verdict on a dispatch, carried out after these: only a packet has one
abbrev pub answer_to : Plan → List Dispatch → Dispatch → Option Verdict
answer_to plan done (ToModule letter event) =
    verdict_at (floor_setup (module_setup plan letter)) (acts_of (events_of letter done ++ event ∷ []))
    (length (events_of letter done))
answer_to plan done (ToDoor direct) = None

-- the dispatch goes to a served module, or past all modules
abbrev pub IsServed : Plan → Dispatch → Type 0
IsServed plan (ToModule letter event) = serves plan.modules letter ≡ true
IsServed plan (ToDoor direct) = Unit {0}
