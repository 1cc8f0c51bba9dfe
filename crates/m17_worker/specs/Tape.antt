-- The tape of a module: the verdicts on what link 0 sent, by the index of the entry.
use Rattle.std.specs.Prelude.{◌≡◌, ◌==◌, ◌&&◌, ℕ, ◌<◌, Bool, false, List, length, slice_get, Option, Some, option_and_then}
use Rattle.std.specs.Option.{option_map_or}
use Rattle.m17_control.specs.declared.event.Event.{Event}
use Rattle.m17_floor.specs.declared.verdict.Verdict.{Verdict}
use Rattle.m17_lookup.specs.Lookup.{last_below}
use Rattle.m17_floor.specs.Acts.{is_packet}
use Rattle.m17_floor.specs.Floor.{verdict_at}
use Rattle.m17_module.specs.Events.{acts_of, kind_of}
use Rattle.m17_module.specs.Items.{Setup, floor_setup}

-- The event is a packet, and comes from the entry of link 0 with this index.
abbrev pub is_packet_of : ℕ → Event → Bool
is_packet_of index event =
    (event.tag.link == 0) && ((index == event.tag.index) && is_packet (kind_of event.body))

-- The last position of such an event: its only one, where no two come from one entry.
unfoldable pub position_of : List Event → ℕ → Option ℕ
position_of events index =
    last_below (λ n. option_map_or (is_packet_of index) (slice_get events n) false) (length events)

-- The verdict on the packet that came from the entry of link 0 with this index, if one did.
abbrev pub verdict_on : Setup → List Event → ℕ → Option Verdict
verdict_on setup events index =
    option_and_then (verdict_at (floor_setup setup) (acts_of events)) (position_of events index)

-- Each cell has the verdict on the entry whose index is the cell's number, and is empty where there
-- is none.
abbrev pub IsTaped : Setup → List Event → List (Option Verdict) → Type 0
IsTaped setup events tape =
    (index : ℕ) → index < length tape →
    slice_get tape index ≡ Some (verdict_on setup events index)
