-- The rule of a pace: which stream packets (frames) are let through to a peer.
use Rattle.std.specs.Prelude.{◌≡◌, ◌⊎◌, ⊤, ℕ, ◌+◌, ◌-◌, ◌<◌, ◌≤◌, Bool, true, false, List, [], ◌∷◌, nat_lt, Option, None, Some, IsSome, if◌then◌else◌}
use Rattle.m17_values.specs.declared.peer.Peer.{Peer}
use Rattle.m17_decorators.specs.Frame.{same_peer}

-- What a pace goes by: its clock told a later moment than before, in milliseconds; or a frame to
-- this peer was let through. A list `past` is what has come so far, the latest first.
pub data Event : Type 0 where
  told : ℕ → Event
  passed : Peer → Event

-- the latest moment that the clock told, or 0
abbrev pub last_moment : List Event → ℕ
last_moment [] = 0
last_moment (told at ∷ older) = at
last_moment (passed to ∷ older) = last_moment older

-- How many frames to the peer passed since the clock last told a moment before this one.
abbrev pub since : Peer → ℕ → List Event → ℕ
since peer from [] = 0
since peer from (told at ∷ older) = if nat_lt at from then 0 else since peer from older
since peer from (passed to ∷ older) =
    if same_peer peer to then since peer from older + 1 else since peer from older

-- How many frames to the peer passed in the last second: since the clock last told a moment that
-- lies more than a second back. (A frame passed between two moments; so it counts as one of the
-- later of them, and never too short.)
abbrev pub in_last_second : Peer → List Event → ℕ
in_last_second peer past = since peer (last_moment past - 1000) past

-- Frames passed to so many other peers, each another, in the last second.
pub record IsCrowded (places : ℕ) (to : Peer) (past : List Event) : Type 0 where
  pub peer : ℕ → Peer
  pub busy : (i : ℕ) → i < places → 0 < in_last_second (peer i) past
  pub other : (i : ℕ) → i < places → same_peer to (peer i) ≡ false
  pub different : (i j : ℕ) → i < places → j < places → peer i ≡ peer j → i ≡ j

-- What is known once the clock was read, if it was: nothing more where it failed, and nothing where
-- it told no later moment.
abbrev pub once_read : Option (Option ℕ) → List Event → List Event
once_read (Some (Some at)) past = if nat_lt (last_moment past) at then told at ∷ past else past
once_read (Some None) past = past
once_read None past = past

-- A frame to this peer is let through, or not, by what is known then: it passes only where fewer
-- than `most` frames to it passed in the last second; and is refused, once the clock was read, only
-- where so many did, or where none did but as many peers as there are places were sent frames.
pub record IsDecided (most places : ℕ) (to : Peer) (read : Option (Option ℕ)) (known : List Event)
    (passes : Bool) : Type 0 where
  pub few : passes ≡ true → in_last_second to known < most
  pub many : passes ≡ false → (most ≤ in_last_second to known)
      ⊎ ((in_last_second to known ≡ 0) × IsCrowded places to known)
  pub now : passes ≡ false → IsSome read ⊎ (places ≡ 0)

-- What has come after that.
abbrev pub once_decided : Peer → Bool → List Event → List Event
once_decided to true known = passed to ∷ known
once_decided to false known = known

-- The clock told later and later moments, and each frame that passed was one of fewer than `most` to
-- its peer in the second before.
abbrev pub KeepsPace : ℕ → List Event → Type 0
KeepsPace most [] = ⊤
KeepsPace most (told at ∷ older) = (last_moment older < at) × KeepsPace most older
KeepsPace most (passed to ∷ older) = (in_last_second to older < most) × KeepsPace most older

-- Then to no peer more than `most` passed in any second.
abbrev pub NoMoreInAnySecond : Type 0
NoMoreInAnySecond = (most : ℕ) (past : List Event) (peer : Peer) → KeepsPace most past
    → in_last_second peer past ≤ most

-- What is decided frame by frame keeps the pace.
abbrev pub DecidedKeepsPace : Type 0
DecidedKeepsPace = (most places : ℕ) (to : Peer) (read : Option (Option ℕ)) (past : List Event)
    (passes : Bool) → KeepsPace most past
    → IsDecided most places to read (once_read read past) passes
    → KeepsPace most (once_decided to passes (once_read read past))
