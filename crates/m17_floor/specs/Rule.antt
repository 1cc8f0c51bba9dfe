-- The floor rule: the verdict on a packet beside the two frames that matter, the floor's last one
-- and the sender's own last one.
use Rattle.std.specs.Prelude.{◌==◌, ◌&&◌, ℕ, ◌-◌, Bool, not, List, [], ◌∷◌, nat_lt, nat_le, Option, None, Some, if◌then◌else◌}
use Rattle.std.specs.Option.{option_map_or}
use Rattle.m17_values.specs.declared.member.Member.{Member}
use Rattle.m17_stream.specs.declared.packet.StreamPacket.{StreamPacket}
use Rattle.m17_stream.specs.Stream.{steps_ahead}
use Rattle.m17_floor.specs.declared.verdict.Verdict.{Verdict}
use Rattle.m17_floor.specs.declared.verdict.Verdict.TheVariants.{Opened, Continued, Busy, Repeat, Late, AfterEnd, TimedOut}
use Rattle.m17_floor.specs.Acts.{is_same}

-- A floor is free after 1,600 milliseconds without an admitted frame.
abbrev pub floor_timeout_ms : ℕ
floor_timeout_ms = 1600

-- The stream of a sender's last admitted frame is remembered for 10,000 milliseconds.
abbrev pub stream_memory_ms : ℕ
stream_memory_ms = 10000

-- A frame number that is 16,384 ahead or more, counted round 32,768, is late.
abbrev pub late_from : ℕ
late_from = 16384

-- an admitted frame: of whom, of which stream, its number, whether it ended the stream, its moment,
-- and the moment of the frame that opened the floor for it, which is its own where it did so itself
pub record Frame : Type 0 where
  pub member : Member
  pub sid : ℕ
  pub number : ℕ
  pub last : Bool
  pub at : ℕ
  pub opened : ℕ

-- what a floor keeps: the module's last admitted frame, unless its sender has left; and how long
-- one may talk, in milliseconds, 0 for no limit
pub record FloorState : Type 0 where
  pub frame : Option Frame
  pub limit : ℕ

-- a packet that comes in: who sent it, the module's moment in milliseconds, and the packet
pub record Incoming : Type 0 where
  pub sender : Member
  pub at : ℕ
  pub packet : StreamPacket

abbrev pub incoming : Member → ℕ → StreamPacket → Incoming
incoming sender at packet = record { sender = sender; at = at; packet = packet }

-- what is kept of the packet if it is admitted, with the moment of the frame that opened the floor
abbrev pub frame_from : ℕ → Incoming → Frame
frame_from opened new = record {
  member = new.sender;
  sid = new.packet.sid;
  number = new.packet.number;
  last = new.packet.last;
  at = new.at;
  opened = opened;
}

-- One has talked out the limit at this moment: it passed since the floor was opened. Where it is 0
-- nobody does.
abbrev pub has_run_out : ℕ → ℕ → ℕ → Bool
has_run_out limit at opened = not (limit == 0) && nat_le limit (at - opened)

-- The frame has the floor at this moment: it did not end its stream, less than 1,600 ms went by, and
-- the limit has not run out since its opening.
abbrev pub has_floor : ℕ → ℕ → Frame → Bool
has_floor limit at frame =
    not frame.last && nat_lt (at - frame.at) floor_timeout_ms
    && not (has_run_out limit at frame.opened)

-- A packet of this stream id at this moment is compared with the frame: that is of the stream id
-- too, and less than 10,000 ms went by.
abbrev pub is_compared : ℕ → ℕ → Frame → Bool
is_compared sid at frame = frame.sid == sid && nat_lt (at - frame.at) stream_memory_ms

-- the packet is of the frame's sender and of its stream id
abbrev pub is_of_stream : Frame → Incoming → Bool
is_of_stream frame new = is_same frame.member new.sender && frame.sid == new.packet.sid

-- The lines of the table that look at frames, in its order. `holder` is the frame that has the
-- floor, if one has it; `own` is the sender's own frame that the packet is compared with, if there
-- is one.
abbrev pub busy : Option Frame → Incoming → Option Verdict
busy None new = None
busy (Some holder) new = if is_of_stream holder new then None else Some (Busy holder.member)

abbrev pub after_end : Option Frame → Option Verdict
after_end None = None
after_end (Some own) = if own.last then Some AfterEnd else None

abbrev pub repeated : Option Frame → ℕ → Option Verdict
repeated None number = None
repeated (Some own) number = if number == own.number then Some Repeat else None

abbrev pub late : Option Frame → ℕ → Option Verdict
late None number = None
late (Some own) number =
    if nat_le late_from (steps_ahead number own.number) then Some (Late own.number) else None

abbrev pub timed_out : ℕ → ℕ → Option Frame → Option Verdict
timed_out limit at None = None
timed_out limit at (Some own) = if has_run_out limit at own.opened then Some TimedOut else None

abbrev pub continued : Option Frame → Option Verdict
continued None = None
continued (Some holder) = Some Continued

-- the first line that fits
abbrev pub first_fit : List (Option Verdict) → Verdict → Verdict
first_fit [] otherwise = otherwise
first_fit (None ∷ lines) otherwise = first_fit lines otherwise
first_fit (Some verdict ∷ lines) otherwise = verdict

-- The verdict on a packet of one that may speak: the first line of the table that fits.
abbrev pub verdict_beside : ℕ → Option Frame → Option Frame → Incoming → Verdict
verdict_beside limit holder own new =
    first_fit
    (busy holder new ∷ after_end own ∷ repeated own new.packet.number ∷ late own new.packet.number
    ∷ timed_out limit new.at own ∷ continued holder ∷ [])
    Opened

-- the frame, if it passes the test
abbrev pub only_if : (Frame → Bool) → Option Frame → Option Frame
only_if test None = None
only_if test (Some frame) = if test frame then Some frame else None

-- The floor rule over the two frames that are kept. The module's last frame is the holder if it has
-- the floor at the packet's moment, and the sender's last frame is its own if the packet is
-- compared with it.
abbrev pub verdict_by_frames : ℕ → Option Frame → Option Frame → Incoming → Verdict
verdict_by_frames limit floor own new =
    verdict_beside limit
    (only_if (has_floor limit new.at) floor)
    (only_if (is_compared new.packet.sid new.at) own)
    new

-- The moment of the frame that opens the floor for a packet that is admitted at this moment: that of
-- the frame that has the floor, if one has it, and else the packet's own.
abbrev pub opened_by : Option Frame → ℕ → ℕ
opened_by holder at = option_map_or (λ frame. frame.opened) holder at

-- What is kept of the packet if it is admitted while this is the module's last frame.
abbrev pub frame_beside : ℕ → Option Frame → Incoming → Frame
frame_beside limit floor new =
    frame_from (opened_by (only_if (has_floor limit new.at) floor) new.at) new

-- For the body of the step alone: the lines beside the sender's own frame, and else this verdict.
abbrev pub beside_own : ℕ → Option Frame → Incoming → Verdict → Verdict
beside_own limit own new otherwise =
    first_fit
    (after_end own ∷ repeated own new.packet.number ∷ late own new.packet.number
    ∷ timed_out limit new.at own ∷ [])
    otherwise
