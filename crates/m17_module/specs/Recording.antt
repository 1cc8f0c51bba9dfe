-- A recording that a parrot module makes and plays back, and what each call makes of it.
use Rattle.std.specs.Prelude.{◌==◌, ◌&&◌, ◌||◌, ℕ, ◌+◌, ◌-◌, ◌*◌, Bool, false, List, [], ◌∷◌, ◌++◌, length, slice_get, nat_lt, nat_le, Option, None, Some, is_some, is_none, option_map, if◌then◌else◌}
use Rattle.std.specs.Option.{option_or, option_map_or}
use Rattle.m17_values.specs.declared.member.Member.{Member}
use Rattle.m17_stream.specs.declared.packet.StreamPacket.{StreamPacket}

-- A recording holds at most 750 frames; its first is due 1,000 milliseconds after its close, and each
-- further one 40 later.
abbrev pub most_frames : ℕ
most_frames = 750

abbrev pub first_after_ms : ℕ
first_after_ms = 1000

abbrev pub frame_every_ms : ℕ
frame_every_ms = 40

-- How many milliseconds after the close frame n is due, counted from 0.
abbrev pub due_after : ℕ → ℕ
due_after n = first_after_ms + frame_every_ms * n

-- A recording: of whom, the frames held, the moment of its close once it is closed, and how many frames were
-- given.
pub record Recording : Type 0 where
  pub member : Member
  pub frames : List StreamPacket
  pub close : Option ℕ
  pub given : ℕ

-- A recording of the member that begins.
abbrev pub begun : Member → Recording
begun k = record { member = k; frames = []; close = None; given = 0 }

-- It goes on: it is not closed.
abbrev pub goes_on : Recording → Bool
goes_on r = is_none r.close

-- A recording is going on.
abbrev pub is_going_on : Option Recording → Bool
is_going_on recording = option_map_or goes_on recording false

-- How many frames are held.
abbrev pub frames_held : Option Recording → ℕ
frames_held recording = option_map_or (λ r. length r.frames) recording 0

-- The frame stands behind those held, if there is room.
abbrev pub with_frame : StreamPacket → Recording → Recording
with_frame p r =
    if nat_lt (length r.frames) most_frames then record r { frames = r.frames ++ p ∷ [] } else r

-- It is closed at this moment, if it went on.
abbrev pub closed : ℕ → Recording → Recording
closed at r = record r { close = option_or r.close (Some at) }

-- It is a recording of this member.
abbrev pub is_of : Member → Recording → Bool
is_of k r = (k.place == r.member.place) && (k.generation == r.member.generation)

-- Nothing is recorded any more, if it was this member's.
abbrev pub unless_of : Member → Recording → Option Recording
unless_of k r = if is_of k r then None else Some r

-- A frame as it is played back: with the complement of its stream id, and, as the last one held, with the end
-- bit.
abbrev pub played : Bool → StreamPacket → StreamPacket
played is_last p = record p { sid = 65535 - p.sid; last = is_last || p.last }

-- The next frame not yet given, as it is played back; none where all were given.
abbrev pub next_frame : Recording → Option StreamPacket
next_frame r = option_map (played (r.given + 1 == length r.frames)) (slice_get r.frames r.given)

-- It is closed, and its next frame is due at this moment.
abbrev pub is_due : ℕ → Recording → Bool
is_due at r = option_map_or (λ close. nat_le (due_after r.given) (at - close)) r.close false

-- What is due at this moment: the next frame not yet given, for the member recorded.
abbrev pub due_of : ℕ → Recording → Option (Member × StreamPacket)
due_of at r = if is_due at r then option_map (λ p. (r.member, p)) (next_frame r) else None

-- The recording after that: one frame more was given, if one was due.
abbrev pub with_given : ℕ → Recording → Recording
with_given at r =
    if is_some (due_of at r) then record r { given = r.given + 1 } else r
