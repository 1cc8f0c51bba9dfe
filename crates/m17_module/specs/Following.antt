-- How the code's recorder follows the room: who leaves by an event, what the floor is then, and what is recorded.
use Rattle.std.specs.Prelude.{◌≡◌, ℕ, Bool, List, Option, None, Some, is_none, option_and_then, option_map, if◌then◌else◌}
use Rattle.m17_values.specs.declared.member.Member.{Member}
use Rattle.m17_stream.specs.declared.packet.StreamPacket.{StreamPacket}
use Rattle.m17_control.specs.declared.event.Body.{Body}
use Rattle.m17_control.specs.declared.event.Body.TheVariants.{Join, Leave, Packet}
use Rattle.m17_floor.specs.declared.verdict.Verdict.{Verdict}
use Rattle.m17_floor.specs.declared.verdict.Verdict.TheVariants.{Opened, Continued}
use Rattle.m17_floor.specs.Rule.{Frame, FloorState, Incoming, incoming, frame_beside, only_if, has_floor}
use Rattle.m17_floor.specs.Floor.{admits}
use Rattle.m17_floor.specs.StandsFor.{without}
use Rattle.m17_module.specs.Recording.{Recording, begun, goes_on, with_frame, closed, unless_of}
use Rattle.m17_module.specs.declared.seat.Seat.{Seat}
use Rattle.m17_module.specs.Seats.{seat_in, seat_of}

-- who leaves by the event: who was in at the place of a Join, or the member of a Leave
abbrev pub seat_member : Option Seat → Option Member
seat_member seat = option_map (λ s. s.member) seat

abbrev pub leaver : List (Option Seat) → Body → Option Member
leaver seats (Join k peer callsign listens after) = seat_member (seat_in seats k.place)
leaver seats (Leave k why) = seat_member (seat_of seats k)
leaver seats _ = None

-- the floor when this one has left
abbrev pub without_any : Option Member → FloorState → FloorState
without_any None floor = floor
without_any (Some m) floor = without m floor

-- the recording when this one has left
abbrev pub unless_any : Option Member → Option Recording → Option Recording
unless_any None recording = recording
unless_any (Some m) recording = option_and_then (unless_of m) recording

-- the frame that has the floor at this moment, and whose it is
abbrev pub holder_then : ℕ → FloorState → Option Frame
holder_then at floor = only_if (has_floor floor.limit at) floor.frame

abbrev pub held_by : ℕ → FloorState → Option Member
held_by at floor = option_map (λ frame. frame.member) (holder_then at floor)

-- the floor when a packet was admitted
abbrev pub floor_with : Incoming → FloorState → FloorState
floor_with heard floor =
    record { frame = Some (frame_beside floor.limit floor.frame heard); limit = floor.limit }

-- The floor after the verdict on a packet that came in; and that a stream that goes on has the floor.
pub record FloorHears (heard : Incoming) (verdict : Verdict) (old new : FloorState) : Type 0
  where
    pub after : new ≡ (if admits (Some verdict) then floor_with heard old else old)
    pub goes_on : verdict ≡ Continued → held_by heard.at old ≡ Some heard.sender

-- The floor after an event.
abbrev pub FloorFollows : List (Option Seat) → ℕ → Body → Option Verdict → FloorState →
    FloorState → Type 0
FloorFollows seats at (Packet k p) answer old new =
    (verdict : Verdict) → answer ≡ Some verdict → FloorHears (incoming k at p) verdict old new
FloorFollows seats at body answer old new = new ≡ without_any (leaver seats body) old

-- whose recording goes on
abbrev pub recorded_by : Option Recording → Option Member
recorded_by recording =
    option_and_then (λ r. if goes_on r then Some r.member else None) recording

-- Whoever has the floor at this moment is recorded.
abbrev pub RecordsHolder : ℕ → FloorState → Option Recording → Type 0
RecordsHolder at floor recording =
    (k : Member) → held_by at floor ≡ Some k → recorded_by recording ≡ Some k

-- a recording that goes on is closed at this moment where nobody has the floor any more
abbrev pub closed_if : Bool → ℕ → Recording → Recording
closed_if silent at r = if silent then closed at r else r

abbrev pub turned : ℕ → FloorState → Option Recording → Option Recording
turned at floor recording = option_map (closed_if (is_none (holder_then at floor)) at) recording

-- a recording with one frame more, closed by the end bit
abbrev pub ended : ℕ → StreamPacket → Recording → Recording
ended at p r = if p.last then closed at r else r

abbrev pub extended : ℕ → StreamPacket → Recording → Recording
extended at p r = ended at p (with_frame p r)

-- the recording after the verdict on a packet
abbrev pub recording_heard : ℕ → Member → StreamPacket → Verdict → Option Recording →
    Option Recording
recording_heard at k p Opened recording = Some (extended at p (begun k))
recording_heard at k p Continued recording = option_map (extended at p) recording
recording_heard at k p _ recording = recording

-- the same of an answer
abbrev pub recording_answered : ℕ → Member → StreamPacket → Option Verdict → Option Recording →
    Option Recording
recording_answered at k p None recording = recording
recording_answered at k p (Some verdict) recording = recording_heard at k p verdict recording

-- the recording after an event by which this one leaves
abbrev pub recording_then : Option Member → ℕ → Body → Option Verdict → Option Recording →
    Option Recording
recording_then leaves at (Packet k p) answer recording = recording_answered at k p answer recording
recording_then leaves at body answer recording = unless_any leaves recording
