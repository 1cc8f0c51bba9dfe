-- What a pace remembers. For proofs alone.
use Rattle.std.specs.Prelude.{◌≡◌, ◌==◌, ◌&&◌, ◌⊎◌, ⊤, ℕ, ◌+◌, ◌-◌, ◌<◌, ◌≤◌, All, Bool, true, false, not, List, [], ◌∷◌, ◌++◌, length, take, slice_index_or, nat_lt, Option, None, Some, if◌then◌else◌}
use Rattle.std.proofs.Common.{set}
use Rattle.circular_buffer.specs.Buffer.{buffer, last_item}
use Rattle.m17_values.specs.declared.peer.Peer.{Peer}
use Rattle.m17_decorators.specs.declared.moments.Moments.{Moments}
use Rattle.m17_decorators.specs.declared.place.Place.{Place}
use Rattle.m17_decorators.specs.declared.pace.Pace.{Pace}
use Rattle.m17_decorators.specs.Pace.{Event, told, passed, last_moment}
use Rattle.m17_decorators.specs.Frame.{same_peer}

-- The latest moment before this one that the clock told, or 0.
abbrev pub latest_before : ℕ → List Event → ℕ
latest_before from [] = 0
latest_before from (told at ∷ older) = if nat_lt at from then at else latest_before from older
latest_before from (passed to ∷ older) = latest_before from older

-- Of each frame to the peer the moment that was the latest then, the latest frame first.
abbrev pub stamps : Peer → List Event → List ℕ
stamps peer [] = []
stamps peer (told at ∷ older) = stamps peer older
stamps peer (passed to ∷ older) =
    if same_peer peer to then last_moment older ∷ stamps peer older else stamps peer older

-- The clock told later and later moments.
abbrev pub IsRising : List Event → Type 0
IsRising [] = ⊤
IsRising (told at ∷ older) = (last_moment older < at) × IsRising older
IsRising (passed to ∷ older) = IsRising older

-- How many of these come before the first one that is too old.
abbrev pub newer : ℕ → List ℕ → ℕ
newer cut [] = 0
newer cut (s ∷ older) = if nat_lt s cut then 0 else newer cut older + 1

-- none of them is later than this, nor than the one before
abbrev pub Falls : ℕ → List ℕ → Type 0
Falls top [] = ⊤
Falls top (s ∷ older) = (s ≤ top) × Falls s older

-- Each is later than the one before, and than this, and none than the other.
abbrev pub RunsUp : ℕ → List ℕ → ℕ → Type 0
RunsUp low [] high = low ≤ high
RunsUp low (at ∷ later) high = (low < at) × RunsUp at later high

-- the first of them, if there is one, lies before this moment
abbrev pub starts_before : ℕ → List ℕ → Bool
starts_before from [] = false
starts_before from (at ∷ later) = nat_lt at from

-- The last of the first ones that lie before this moment, or the one before all.
abbrev pub last_below : ℕ → ℕ → List ℕ → ℕ
last_below from before [] = before
last_below from before (at ∷ later) = if nat_lt at from then last_below from at later else before

-- The moments are whole: those of the last second, and the one before them.
pub record AreWhole (m : Moments) : Type 0 where
  pub up : RunsUp m.cut m.later.items m.last
  pub late : starts_before (m.last - 1000) m.later.items ≡ false
  pub room : m.later.capacity ≡ 1001

-- The moments are those of this past.
pub record AreOf (past : List Event) (m : Moments) : Type 0 where
  pub rising : IsRising past
  pub last : m.last ≡ last_moment past
  pub before : (from : ℕ) → m.last - 1000 ≤ from
      → latest_before from past ≡ last_below from m.cut m.later.items

abbrev pub blank : Place
blank = record { peer = None; stamps = buffer [] 0 }

abbrev pub place_at : List Place → ℕ → Place
place_at places i = slice_index_or places i blank

-- The place is this peer's.
abbrev pub holds : Peer → Option Peer → Bool
holds peer None = false
holds peer (Some other) = same_peer peer other

-- No frame of the last second stands at the place.
abbrev pub is_idle_by : ℕ → List ℕ → Option Peer → Bool
is_idle_by cut items None = true
is_idle_by cut items (Some peer) = newer cut items == 0

abbrev pub is_idle : ℕ → Place → Bool
is_idle cut place = is_idle_by cut place.stamps.items place.peer

-- The oldest frame of so many as there is room for is one of the last second.
abbrev pub is_late : ℕ → Option ℕ → Bool
is_late cut None = false
is_late cut (Some s) = not (nat_lt s cut)

abbrev pub is_spent : ℕ → Place → Bool
is_spent cut place = length place.stamps.items == place.stamps.capacity
    && is_late cut (last_item place.stamps.items)

-- These are all of the peer's stamps but some that are too old.
pub record HasStamps (cut : ℕ) (all items : List ℕ) : Type 0 where
  pub rest : List ℕ
  pub whole : all ≡ items ++ rest
  pub out : newer cut rest ≡ 0

-- The places hold the stamps of the last second.
pub record Hold (most cut now : ℕ) (all : Peer → List ℕ) (places : List Place) : Type 0 where
  pub room : (i : ℕ) → i < length places → (place_at places i).stamps.capacity ≡ most
  pub fits : (i : ℕ) → i < length places → length (place_at places i).stamps.items ≤ most
  pub falls : (peer : Peer) → Falls now (all peer)
  pub each : (i : ℕ) (peer : Peer) → i < length places
      → holds peer (place_at places i).peer ≡ true
      → HasStamps cut (all peer) (place_at places i).stamps.items
  pub one : (i j : ℕ) (peer : Peer) → i < length places → j < length places
      → holds peer (place_at places i).peer ≡ true → holds peer (place_at places j).peer ≡ true
      → i ≡ j
  pub others : (peer : Peer)
      → ((i : ℕ) → i < length places → holds peer (place_at places i).peer ≡ false)
      → newer cut (all peer) ≡ 0

-- all stamps, once a frame passed to this peer
abbrev pub once_stamped : (Peer → List ℕ) → Peer → ℕ → Peer → List ℕ
once_stamped all to now peer = if same_peer peer to then now ∷ all peer else all peer

-- So many other peers have stamps of the last second.
pub record AreBusy (cut : ℕ) (all : Peer → List ℕ) (to : Peer) (places : ℕ) : Type 0 where
  pub peer : ℕ → Peer
  pub busy : (i : ℕ) → i < places → 0 < newer cut (all (peer i))
  pub other : (i : ℕ) → i < places → same_peer to (peer i) ≡ false
  pub different : (i j : ℕ) → i < places → j < places → peer i ≡ peer j → i ≡ j

-- A place was found for one more stamp, or none.
pub record Admits (most cut now : ℕ) (all : Peer → List ℕ) (to : Peer) (count : ℕ) (passes : Bool)
    : Type 0 where
  pub few : passes ≡ true → newer cut (all to) < most
  pub many : passes ≡ false → (most ≤ newer cut (all to))
      ⊎ ((newer cut (all to) ≡ 0) × AreBusy cut all to count)

-- The pace remembers this past.
pub record Remembers (p : Pace) (past : List Event) : Type 0 where
  pub moments : AreOf past p.moments
  pub places : Hold p.most p.moments.cut p.moments.last (λ peer. stamps peer past)
      p.places.list.items

-- A pace, if there is one, has this bound, and its moments are whole.
abbrev pub IsPacing : ℕ → Option Pace → Type 0
IsPacing most None = ⊤
IsPacing most (Some p) = AreWhole p.moments × (p.most ≡ most)

-- each paces so many frames, for 256 peers, and nothing has come to it
pub record IsNew (most : ℕ) (p : Pace) : Type 0 where
  pub whole : AreWhole p.moments
  pub bound : p.most ≡ most
  pub places : length p.places.list.items ≡ 256
  pub nothing : Remembers p []

abbrev pub AreNew : ℕ → List Pace → Type 0
AreNew most paces = All (IsNew most) paces

-- each is nobody's, and has room for so many frames
abbrev pub AreFresh : ℕ → List Place → Type 0
AreFresh most places = (i : ℕ) → i < length places
    → place_at places i ≡ record { peer = None; stamps = buffer [] most }

-- the places, where one more frame passed to the peer of this one
abbrev pub stamped : Place → ℕ → Place
stamped place now = record place {
  stamps = buffer (take place.stamps.capacity (now ∷ place.stamps.items)) place.stamps.capacity;
}

-- the place, where it is given to this peer, and a frame to it passed
abbrev pub renewed : Place → Peer → ℕ → Place
renewed place to now = record {
  peer = Some to;
  stamps = buffer (take place.stamps.capacity (now ∷ [])) place.stamps.capacity;
}

abbrev pub with_renewed : List Place → ℕ → Peer → ℕ → List Place
with_renewed places i to now = set places i (renewed (place_at places i) to now)

abbrev pub with_stamp : List Place → ℕ → ℕ → List Place
with_stamp places i now = set places i (stamped (place_at places i) now)
