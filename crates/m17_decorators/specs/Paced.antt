-- What a mouth behind a pace tells, and what it makes of a datagram.
use Rattle.std.specs.Prelude.{◌≡◌, ℕ, ◌+◌, ◌-◌, ◌^◌, ◌<◌, ◌&&◌, ◌++◌, min, Bool, true, false, List, [], ◌∷◌, Option, None, Some, Result, IsErr, nat_lt, if◌then◌else◌, length}
use Rattle.m17_values.specs.declared.peer.Peer.{Peer}
use Rattle.m17_values.specs.declared.failures.Failed.{Failed}
use Rattle.m17_io.specs.Faults.{HasCause}
use Rattle.m17_ports.specs.Told.{told_then}
use Rattle.m17_ports.specs.Mouth.{Datagram, MouthTold}
use Rattle.m17_ports.specs.Ports.{next_number}
use Rattle.m17_decorators.specs.declared.pace.Pace.{Pace}
use Rattle.m17_decorators.specs.declared.paced.PaceLabel.{PaceLabel}
use Rattle.m17_decorators.specs.Pace.{Event, IsDecided, KeepsPace, once_decided, once_read}
use Rattle.m17_decorators.specs.PaceMemory.{Remembers}
use Rattle.m17_decorators.specs.Frame.{is_frame}

-- A mouth behind a pace: the mouth, the clock, how many frames may pass to one peer in any second,
-- or 0 for no bound, what is remembered of them, and how many did not pass.
pub record PaceSeen (M C : Type 0) : Type 0 where
  pub inner : M
  pub clock : C
  pub most : ℕ
  pub memory : Option Pace
  pub refused : ℕ

-- how many peers there is room for
abbrev pub places_of : Option Pace → ℕ
places_of None = 0
places_of (Some pace) = length pace.places.list.items

-- What such a mouth tells: what the inner one does, and the inner one's faults with its own. Its
-- label says its bound, for how many peers it has room, and which mouth is behind it.
abbrev pub pace_told : {M C L : Type 0} → (M → MouthTold L) → PaceSeen M C
    → MouthTold (PaceLabel L)
pace_told told paced = record {
  said = (told paced.inner).said;
  tallies = (told paced.inner).tallies;
  faults = min ((told paced.inner).faults + paced.refused) (2 ^ 64 - 1);
  device = record {
    mark = (told paced.inner).device.mark;
    label = record {
      most = paced.most;
      places = places_of paced.memory;
      inner = (told paced.inner).device.label;
    };
  };
}

abbrev pub has_come : Option Pace → List Event → Type 0
has_come None past = past ≡ []
has_come (Some pace) past = Remembers pace past

-- This has come to the mouth so far, the latest first. It is [] of a new one, and what follows is
-- told by each call.
abbrev pub HasCome : {M C : Type 0} → PaceSeen M C → List Event → Type 0
HasCome paced past = has_come paced.memory past

-- Whether the datagram is one that counts: a stream packet, where there is a bound.
abbrev pub is_counted : ℕ → List ℕ → Bool
is_counted most bytes = nat_lt 0 most && is_frame bytes

abbrev pub readings : Option (Option ℕ) → List (Option ℕ)
readings None = []
readings (Some answer) = answer ∷ []

-- What became of a datagram: how the clock was read, if it was, and whether the datagram was given
-- to the inner mouth. `told` and `answers` say what mouths and clocks tell.
pub record HasPaced {M C L : Type 0} (told : M → MouthTold L)
    (answers : C → Option (List (Option ℕ))) (old new : PaceSeen M C) (to : Peer) (bytes : List ℕ)
    (result : Result (Unit {0}) Failed) : Type 0 where
  pub read : Option (Option ℕ)
  pub passes : Bool
  -- one that does not count passes, and no clock is read
  pub other : is_counted old.most bytes ≡ false → (passes ≡ true) × (new.clock ≡ old.clock)
      × (new.memory ≡ old.memory)
  -- one that counts passes by the rule, and what has come is remembered
  pub frame : is_counted old.most bytes ≡ true → (past : List Event) → HasCome old past
      → IsDecided old.most (places_of old.memory) to read (once_read read past) passes
      × HasCome new (once_decided to passes (once_read read past))
  pub clock : is_counted old.most bytes ≡ true
      → answers new.clock ≡ told_then (answers old.clock) (readings read)
  -- what passes is said by the inner mouth, or fails there
  pub given : passes ≡ true → (new.refused ≡ old.refused)
      × HasCause (told old.inner).faults (told new.inner).faults result
  -- what doesn't is counted, and nothing is said
  pub lost : passes ≡ false → IsErr result × (new.inner ≡ old.inner)
      × (new.refused ≡ next_number old.refused)
  pub most : new.most ≡ old.most
  pub places : places_of new.memory ≡ places_of old.memory

-- The frames among these datagrams are frames that were let through, in their order, each to its
-- peer. (One that was let through may have failed.)
pub data AreLet : List Event → List Datagram → Type 0 where
  at_first : AreLet [] []
  at_moment : {past : List Event} {said : List Datagram} {at : ℕ} → AreLet past said
      → AreLet (Event.told at ∷ past) said
  went_lost : {past : List Event} {said : List Datagram} {to : Peer} → AreLet past said
      → AreLet (Event.passed to ∷ past) said
  went : {past : List Event} {said : List Datagram} (to : Peer) (bytes : List ℕ)
      → is_frame bytes ≡ true → AreLet past said
      → AreLet (Event.passed to ∷ past) (said ++ (to, bytes) ∷ [])
  uncounted : {past : List Event} {said : List Datagram} (to : Peer) (bytes : List ℕ)
      → is_frame bytes ≡ false → AreLet past said → AreLet past (said ++ (to, bytes) ∷ [])

-- All that the mouth behind it has said keeps the pace: what has come to it does, and where there is
-- a bound, the frames that were said, as far as they are told, are among those that were let through.
pub record IsAtPace {M C L : Type 0} (tells : M → MouthTold L) (paced : PaceSeen M C)
    : Type 0 where
  pub past : List Event
  pub come : HasCome paced past
  pub keeps : KeepsPace paced.most past
  pub said : 0 < paced.most → (all : List Datagram) → (tells paced.inner).said ≡ Some all
      → AreLet past all

-- The same of a frame, before it is given on. For proofs alone.
pub record HasLet {M C : Type 0} (answers : C → Option (List (Option ℕ)))
    (old new : PaceSeen M C) (to : Peer) (passes : Bool) : Type 0 where
  pub read : Option (Option ℕ)
  pub frame : (past : List Event) → HasCome old past
      → IsDecided old.most (places_of old.memory) to read (once_read read past) passes
      × HasCome new (once_decided to passes (once_read read past))
  pub clock : answers new.clock ≡ told_then (answers old.clock) (readings read)
  pub places : places_of new.memory ≡ places_of old.memory
  pub inner : new.inner ≡ old.inner
  pub most : new.most ≡ old.most
  pub refused : new.refused ≡ old.refused

-- Paces for so many links more, with this bound.
pub record PacesSeen : Type 0 where
  pub most : ℕ
  pub left : ℕ

-- For how many peers the pace of a later link has room: of the next one, where its place is 0, and
-- so on. Behind one that has none no frame passes, where there is a bound.
abbrev pub places_at : PacesSeen → ℕ → ℕ
places_at paces place = if nat_lt place paces.left then 256 else 0
