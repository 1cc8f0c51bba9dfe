-- What a parrot module plays back, looked up in the whole list of what happened. Positions count from 0.
use Rattle.std.specs.Prelude.{◌&&◌, ◌||◌, ℕ, zero, suc, ◌-◌, Bool, false, List, [], ◌∷◌, ◌++◌, take, drop, nat_lt, count_by, find, Option, None, Some, is_some, is_none, option_and_then, option_map, if◌then◌else◌}
use Rattle.std.specs.Option.{option_map_or}
use Rattle.std.specs.List.{flat_map, range_with_len}
use Rattle.m17_values.specs.declared.member.Member.{Member}
use Rattle.m17_stream.specs.declared.packet.StreamPacket.{StreamPacket}
use Rattle.m17_floor.specs.declared.act.Act.{Act}
use Rattle.m17_floor.specs.declared.act.ActKind.{ActKind}
use Rattle.m17_floor.specs.declared.act.ActKind.TheVariants.{Packet}
use Rattle.m17_lookup.specs.Lookup.{last_below}
use Rattle.m17_floor.specs.Acts.{kind_at, moment_at, joined_at}
use Rattle.m17_floor.specs.Rule.{Frame, only_if, has_floor}
use Rattle.m17_floor.specs.Floor.{floor_frame, opens, admits, past_at, verdict_at}
use Rattle.m17_module.specs.Setup.{Setup, floor_setup}
use Rattle.m17_module.specs.Recording.{Recording, most_frames, due_of}

-- The packet at position n is admitted; it opens the floor.
abbrev pub is_admitted_at : Setup → List Act → ℕ → Bool
is_admitted_at setup acts n = admits (verdict_at (floor_setup setup) acts n)

abbrev pub is_opened_at : Setup → List Act → ℕ → Bool
is_opened_at setup acts n = opens (verdict_at (floor_setup setup) acts n)

-- The frame that has the floor at position n, if one has it.
unfoldable pub holder_at : Setup → List Act → ℕ → Option Frame
holder_at setup acts n =
    only_if (has_floor setup.limit (moment_at acts n))
    (floor_frame (past_at (floor_setup setup) acts n))

-- The positions from o on, below n.
abbrev pub positions_from : ℕ → ℕ → List ℕ
positions_from o n = range_with_len o (n - o)

-- The packet at position m, if it is admitted.
abbrev pub packet_in : ActKind → List StreamPacket
packet_in (Packet k p) = p ∷ []
packet_in _ = []

unfoldable pub admitted_packet : Setup → List Act → ℕ → List StreamPacket
admitted_packet setup acts m =
    if is_admitted_at setup acts m then packet_in (kind_at acts m) else []

-- The frames held of what was opened at o: the first 750 that are admitted from there on, below n.
abbrev pub held_before : Setup → List Act → ℕ → ℕ → List StreamPacket
held_before setup acts o n =
    take most_frames (flat_map (admitted_packet setup acts) (positions_from o n))

-- The packet has the end bit.
abbrev pub has_end_bit : ActKind → Bool
has_end_bit (Packet k p) = p.last
has_end_bit _ = false

-- Position c closes what was opened at o: an admitted packet there has the end bit, or, above o, nobody has the
-- floor there.
unfoldable pub closes : Setup → List Act → ℕ → ℕ → Bool
closes setup acts o c =
    (is_admitted_at setup acts c && has_end_bit (kind_at acts c))
    || (nat_lt o c && is_none (holder_at setup acts c))

-- The first position that closes it, from o on, below n.
abbrev pub close_before : Setup → List Act → ℕ → ℕ → Option ℕ
close_before setup acts o n = find (closes setup acts o) (positions_from o n)

-- The member is in before position n, by a Join below o.
abbrev pub is_in_since : ℕ → List Act → Member → ℕ → ℕ → Bool
is_in_since places acts k o n = option_map_or (λ j. nat_lt j o) (joined_at places acts k n) false

-- What was opened at a position, looked back at from a later one.
pub record Opening : Type 0 where
  pub setup : Setup
  pub acts : List Act
  pub opened : ℕ
  pub now : ℕ

abbrev pub opening : Setup → List Act → ℕ → ℕ → Opening
opening setup acts o n = record { setup = setup; acts = acts; opened = o; now = n }

-- What is recorded of it, if its member has been in since before it. `echoed` says of each position below the later one
-- whether it has an echo.
abbrev pub recording_of : Opening → List Bool → ActKind → Option Recording
recording_of at echoed (Packet k p) =
    if is_in_since at.setup.places at.acts k at.opened at.now then Some (record {
      member = k;
      frames = held_before at.setup at.acts at.opened at.now;
      close = option_map (moment_at at.acts)
          (close_before at.setup at.acts at.opened at.now);
      given = count_by (λ has_echo. has_echo) (drop (suc at.opened) echoed);
    }) else None
recording_of at echoed _ = None

-- The last opened position below n.
abbrev pub last_opened : Setup → List Act → ℕ → Option ℕ
last_opened setup acts n = last_below (is_opened_at setup acts) n

-- What is recorded before position n: of what was opened last.
unfoldable pub recording_with : Setup → List Act → ℕ → List Bool → Option Recording
recording_with setup acts n echoed =
    option_and_then (λ o. recording_of (opening setup acts o n) echoed (kind_at acts o))
    (last_opened setup acts n)

-- The echo at position n: the frame that is due there of what was recorded before it.
abbrev pub echo_with : Setup → List Act → ℕ → List Bool → Option (Member × StreamPacket)
echo_with setup acts n echoed =
    option_and_then (due_of (moment_at acts n)) (recording_with setup acts n echoed)

-- Of each position below n, whether it has an echo.
unfoldable pub echoed_before : Setup → List Act → ℕ → List Bool
echoed_before setup acts zero = []
echoed_before setup acts (suc n) =
    let before = echoed_before setup acts n in
    before ++ is_some (echo_with setup acts n before) ∷ []

-- What a parrot module plays back at position n, and to whom; none where no frame is due.
unfoldable pub echo_at : Setup → List Act → ℕ → Option (Member × StreamPacket)
echo_at setup acts n = echo_with setup acts n (echoed_before setup acts n)

-- What is recorded before position n.
unfoldable pub recording_at : Setup → List Act → ℕ → Option Recording
recording_at setup acts n = recording_with setup acts n (echoed_before setup acts n)
