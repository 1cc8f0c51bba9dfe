-- The floor rule at each position of the list of all acts. The two frames that matter are looked up
-- in the acts before the position, and the rest is the rule beside them.
use Rattle.std.specs.Prelude.{◌&&◌, ℕ, zero, suc, Bool, true, false, List, [], ◌∷◌, ◌++◌, length, take, slice_get, count_by, nat_lt, Option, None, Some, IsTrue, unwrap_or, option_and_then, if◌then◌else◌}
use Rattle.std.specs.Option.{option_map_or}
use Rattle.m17_values.specs.declared.member.Member.{Member}
use Rattle.m17_floor.specs.declared.act.Act.{Act}
use Rattle.m17_floor.specs.declared.act.ActKind.{ActKind}
use Rattle.m17_floor.specs.declared.act.ActKind.TheVariants.{Join, Packet}
use Rattle.m17_floor.specs.declared.verdict.Verdict.{Verdict}
use Rattle.m17_floor.specs.declared.verdict.Verdict.TheVariants.{Opened, Continued, NotMember, ListenOnly}
use Rattle.m17_lookup.specs.Lookup.{last_below}
use Rattle.m17_floor.specs.Setup.{FloorSetup}
use Rattle.m17_floor.specs.Acts.{kind_at, moment_at, is_same, joined_at}
use Rattle.m17_floor.specs.Rule.{Frame, Incoming, incoming, frame_from, first_fit, verdict_by_frames}

-- a packet with this verdict is admitted, and opens the floor
abbrev pub opens : Option Verdict → Bool
opens (Some Opened) = true
opens _ = false

-- a packet with this verdict is admitted
abbrev pub admits : Option Verdict → Bool
admits (Some Opened) = true
admits (Some Continued) = true
admits _ = false

-- What the rule looks back on: what the module's floor is made with, what happened there so far, and
-- the verdict on each of these acts.
pub record Past : Type 0 where
  pub setup : FloorSetup
  pub acts : List Act
  pub verdicts : List (Option Verdict)

-- the verdict that was given at position a, and whether that position was opened, or admitted
abbrev pub given : Past → ℕ → Option Verdict
given past a = unwrap_or (slice_get past.verdicts a) None

abbrev pub was_opened : Past → ℕ → Bool
was_opened past a = opens (given past a)

abbrev pub was_admitted : Past → ℕ → Bool
was_admitted past a = admits (given past a)

-- the position of the Join by which the member is in now
abbrev pub joined : Past → Member → Option ℕ
joined past k = joined_at past.setup.places past.acts k (length past.acts)

-- the member is in now, by a Join below position a
abbrev pub is_in_since : Past → Member → ℕ → Bool
is_in_since past k a = option_map_or (λ j. nat_lt j a) (joined past k) false

-- the last opened position at or below a, and the moment there
abbrev pub opening_of : Past → ℕ → Option ℕ
opening_of past a = last_below (was_opened past) (suc a)

abbrev pub opened_at : Past → ℕ → ℕ
opened_at past a = option_map_or (moment_at past.acts) (opening_of past a) 0

-- the frame of the packet at position a, with the moment there and that of its opening
abbrev pub frame_of : ActKind → ℕ → ℕ → Option Frame
frame_of (Packet k p) at opened = Some (frame_from opened (incoming k at p))
frame_of _ at opened = None

abbrev pub frame_at : Past → ℕ → Option Frame
frame_at past a = frame_of (kind_at past.acts a) (moment_at past.acts a) (opened_at past a)

-- the sender of the packet at position a has been in since before it
abbrev pub has_stayed : Past → ℕ → ActKind → Bool
has_stayed past a (Packet k p) = is_in_since past k a
has_stayed past a _ = false

-- the last admitted position
abbrev pub last_admitted : Past → Option ℕ
last_admitted past = last_below (was_admitted past) (length past.acts)

-- The module's last admitted frame, if its sender has been in since before it.
unfoldable pub floor_frame : Past → Option Frame
floor_frame past =
    option_and_then
    (λ a. if has_stayed past a (kind_at past.acts a) then frame_at past a else None)
    (last_admitted past)

-- the act is a packet of the member
abbrev pub is_packet_of : Member → ActKind → Bool
is_packet_of k (Packet sender p) = is_same sender k
is_packet_of k _ = false

-- the position of the member's last admitted packet since its Join
abbrev pub last_own : Past → Member → Option ℕ
last_own past k =
    last_below
    (λ a. was_admitted past a && is_packet_of k (kind_at past.acts a) && is_in_since past k a)
    (length past.acts)

-- The member's last admitted frame since its Join.
unfoldable pub own_frame : Past → Member → Option Frame
own_frame past k = option_and_then (frame_at past) (last_own past k)

-- The first two lines of the table, by the position of the sender's Join.
abbrev pub not_member : Option ℕ → Option Verdict
not_member None = Some NotMember
not_member (Some j) = None

-- the act is a Join to listen only
abbrev pub listens : ActKind → Bool
listens (Join member listens_only) = listens_only
listens _ = false

abbrev pub listen_only : List Act → Option ℕ → Option Verdict
listen_only acts None = None
listen_only acts (Some j) = if listens (kind_at acts j) then Some ListenOnly else None

-- The verdict on a packet that comes in: the first line of the table that fits.
abbrev pub verdict_after : Past → Incoming → Verdict
verdict_after past new =
    first_fit
    (not_member (joined past new.sender) ∷ listen_only past.acts (joined past new.sender) ∷ [])
    (verdict_by_frames past.setup.limit (floor_frame past) (own_frame past new.sender) new)

-- The verdict on what happens at this moment: none but for a packet.
unfoldable pub verdict_given : Past → ℕ → ActKind → Option Verdict
verdict_given past at (Packet k p) = Some (verdict_after past (incoming k at p))
verdict_given past at _ = None

-- the acts before position n, with the verdicts on them
abbrev pub past_with : FloorSetup → List Act → ℕ → List (Option Verdict) → Past
past_with setup acts n verdicts =
    record { setup = setup; acts = take n acts; verdicts = verdicts }

-- of each position below n, the verdict there
unfoldable pub verdicts_before : FloorSetup → List Act → ℕ → List (Option Verdict)
verdicts_before setup acts zero = []
verdicts_before setup acts (suc n) =
    let before = verdicts_before setup acts n in
    let past = past_with setup acts n before in
    before ++ verdict_given past (moment_at acts n) (kind_at acts n) ∷ []

-- what the rule looks back on at position n
abbrev pub past_at : FloorSetup → List Act → ℕ → Past
past_at setup acts n = past_with setup acts n (verdicts_before setup acts n)

-- The verdict at position n, in a module whose floor is made with this: none but for a packet.
unfoldable pub verdict_at : FloorSetup → List Act → ℕ → Option Verdict
verdict_at setup acts n =
    verdict_given (past_at setup acts n) (moment_at acts n) (kind_at acts n)

-- the packet at position n is admitted
abbrev pub IsAdmitted : FloorSetup → List Act → ℕ → Type 0
IsAdmitted setup acts n = IsTrue (admits (verdict_at setup acts n))

-- how many positions of the list are admitted
unfoldable pub admitted_count : FloorSetup → List Act → ℕ
admitted_count setup acts = count_by admits (verdicts_before setup acts (length acts))
