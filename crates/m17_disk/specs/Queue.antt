-- What a book hands over to its thread.
use Rattle.std.specs.Prelude.{◌≡◌, ◌⊎◌, ◌++◌, ℕ, ◌+◌, ◌-◌, ◌^◌, ◌<◌, min, Bool, true, false, List, [], ◌∷◌, length, replicate, None, Some}
use Rattle.std.specs.List.{flat_map}
use Rattle.m17_ports.specs.Book.{BookTold}
use Rattle.m17_lane.specs.Ends.{PushEnd}

-- the bytes of these writes, in order
abbrev pub joined : List (List ℕ) → List ℕ
joined writes = flat_map (λ bytes. bytes) writes

-- a book: its end of the lane, how many rests it may make, whether it has seen that its thread has ended, whether it gave up,
-- how often it has failed, and its number
pub record QueueKept : Type 0 where
  pub slips : PushEnd (List ℕ)
  pub rests : ℕ
  pub over : Bool
  pub gave_up : Bool
  pub faults : ℕ
  pub number : ℕ

-- what a book tells that hands its writes over: its faults and its number, and no bytes
abbrev pub queue_told : QueueKept → BookTold (Unit {0})
queue_told book = record {
  written = None;
  faults = min book.faults (2 ^ 64 - 1);
  device = record { mark = Some book.number; label = tt };
}

-- The book is new: nothing was handed over, and it has not failed. Up to 2048 writes wait for its thread.
pub record IsNewQueue (number : ℕ) (book : QueueKept) : Type 0 where
  pub nothing : book.slips.pushed ≡ []
  pub room : book.slips.capacity ≡ 2048
  pub two : book.slips.producers ≡ 2
  pub first : book.slips.number ≡ 0
  pub rested : book.rests ≡ 250
  pub runs : book.over ≡ false
  pub going : book.gave_up ≡ false
  pub no_fault : book.faults ≡ 0
  pub numbered : book.number ≡ number

-- One more write was handed over. Its lane had refused it so often, and it had rested once for each time; a write that
-- was taken at once gives a rest back, up to 250.
pub record HandsOver (bytes : List ℕ) (before after : QueueKept) : Type 0 where
  pub refusals : ℕ
  pub pushed : after.slips.pushed ≡ before.slips.pushed ++ bytes ∷ []
  pub refused : after.slips.refused ≡ before.slips.refused ++ replicate refusals bytes
  pub at_once : refusals ≡ 0 → after.rests ≡ min (before.rests + 1) 250
  pub rested : 0 < refusals → after.rests + refusals ≡ before.rests

-- The same of a write that may have no bytes: then nothing is handed over.
abbrev pub Hands : List ℕ → QueueKept → QueueKept → Type 0
Hands [] before after = (after.slips ≡ before.slips) × (after.rests ≡ before.rests)
Hands bytes before after = HandsOver bytes before after

-- Why a book fails that had not given up: the write has more than 112 bytes; it has seen that its thread has ended; or the
-- lane refused the write once more often than it might rest.
abbrev pub HasGround : List ℕ → QueueKept → QueueKept → Type 0
HasGround bytes before after = (112 < length bytes) ⊎ (after.over ≡ true)
    ⊎ (after.slips.refused ≡ before.slips.refused ++ replicate (before.rests + 1) bytes)

-- it is the same end of the same lane
pub record IsSameEnd (before after : PushEnd (List ℕ)) : Type 0 where
  pub lane : after.lane ≡ before.lane
  pub capacity : after.capacity ≡ before.capacity
  pub producers : after.producers ≡ before.producers
  pub number : after.number ≡ before.number
