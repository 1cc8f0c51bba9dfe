-- For proofs: what a sender has done so far.
use Rattle.std.specs.Prelude.{◌≡◌, ◌≢◌, ℕ, ◌<◌, ◌-◌, ◌^◌, min, List, [], ◌∷◌, ◌++◌, length, map, filter, slice_index, ◌+◌, ◌≤◌, Bool, true, false, Option, None, Some}
use Rattle.std.specs.List.{All}
use Rattle.m17_ports.specs.Mouth.{MouthTold}
use Rattle.m17_control.specs.declared.item.Item.{Item}
use Rattle.m17_control.specs.declared.item.Said.TheVariants.{Hello}
use Rattle.m17_control.specs.declared.item.Direct.{Direct}
use Rattle.m17_crew.specs.declared.order.Order.{Order}
use Rattle.m17_crew.specs.declared.order.Order.TheVariants.{Stop}
use Rattle.m17_lane.specs.Ends.{PopEnd}
use Rattle.m17_lane.specs.Rows.{pops, push_each}
use Rattle.m17_lane.specs.Grids.{IsSameGrid, only_in}
use Rattle.m17_sender.specs.Acts.{Act, answers_of, notes_of, things_of}
use Rattle.m17_sender.specs.Turns.{Turns}
use Rattle.m17_sender.specs.declared.sender.Sender.{Sender}
use Rattle.m17_sender.specs.declared.queue.Tried.{Tried}
use Rattle.m17_sender.specs.declared.queue.Tried.TheVariants.{Did, Empty, Waiting}
use Rattle.m17_sender.specs.Places.{cells_of, held_at, is_answered, is_said, popped_at, queues_of}
use Rattle.m17_sender.specs.Ready.{IsShaped}
use Rattle.m17_sender.specs.Sent.{EachMouth, SaidByLink, bye_on, byes_of}

-- a sender, how many notes it pushed to each link, the items that it has taken out of its queues to
-- say them, and the replies that it has taken out of its door
pub record State (M : Type 0) : Type 0 where
  pub sender : Sender M
  pub noted : List ℕ
  pub taken : ℕ → ℕ → List Item
  pub asked : List Direct

abbrev pub nothing : ℕ → ℕ → List Item
nothing m q = []

abbrev pub taken_from : ℕ → ℕ → Option Item → ℕ → ℕ → List Item
taken_from m q None = nothing
taken_from m q (Some item) = only_in m q item

-- between two items
abbrev pub at_rest : {M : Type 0} → Sender M → List ℕ → State M
at_rest s noted = record { sender = s; noted = noted; taken = nothing; asked = [] }

-- with this item of a queue in hand
abbrev pub with_item : {M : Type 0} → Sender M → List ℕ → ℕ → ℕ → Option Item → State M
with_item s noted m q item =
    record { sender = s; noted = noted; taken = taken_from m q item; asked = [] }

-- with this reply in hand
abbrev pub with_reply : {M : Type 0} → Sender M → List ℕ → Direct → State M
with_reply s noted reply =
    record { sender = s; noted = noted; taken = nothing; asked = reply ∷ [] }

-- the acts so far, since the start
pub record SoFar {M L : Type 0} (tells : M → MouthTold L) (j : Sender M) (acts : List Act) (s : State M)
    : Type 0 where
  pub turns : Turns acts
  pub noted : (i : ℕ) → notes_of i acts ≡ byes_of i acts
  pub counts : (i : ℕ) → i < 256
      → slice_index s.noted i ≡ min (length (notes_of i acts)) (2 ^ 64 - 1)
  pub same_queues : IsSameGrid (queues_of j) (queues_of s.sender)
  pub queues : (m q : ℕ) → filter (is_said j) (popped_at (queues_of s.sender) m q)
      ≡ things_of m q acts ++ (held_at (cells_of s.sender) m q ++ filter (is_said j) (s.taken m q))
  pub held_said : (m q : ℕ) → filter (is_said j) (held_at (cells_of s.sender) m q)
      ≡ held_at (cells_of s.sender) m q
  pub same_door : s.sender.door ≡ record j.door { popped = s.sender.door.popped }
  pub door : filter (is_answered j) s.sender.door.popped
      ≡ answers_of acts ++ filter (is_answered j) s.asked
  pub notes : s.sender.notes.items ≡ push_each (λ i. notes_of i acts) 0 j.notes.items
  pub mouths : EachMouth (λ i m n. SaidByLink j.name acts i (tells m) (tells n)) 0
      j.mouths.items s.sender.mouths.items
  pub same_name : s.sender.name ≡ j.name
  pub same_places : s.sender.places ≡ j.places
  pub same_cells : map length (cells_of s.sender) ≡ map length (cells_of j)
  pub same_links : length s.sender.mouths.items ≡ length j.mouths.items

-- what was done so far goes on by some acts more, and the sender keeps its shape
pub record Grows {M L : Type 0} (tells : M → MouthTold L) (before after : State M) : Type 0 where
  pub on : (j : Sender M) (acts : List Act) → SoFar tells j acts before
      → (more : List Act) × SoFar tells j (acts ++ more) after
  pub shaped : IsShaped before.sender → IsShaped after.sender
  pub same_places : after.sender.places ≡ before.sender.places
  pub same_modules : length after.sender.queues.items ≡ length before.sender.queues.items

-- the same, with no order popped
pub record GoesOn {M L : Type 0} (tells : M → MouthTold L) (before after : State M) : Type 0 where
  pub grows : Grows tells before after
  pub same_order : after.sender.order ≡ before.sender.order

-- orders that are no Stop were popped
pub record HasPassed (before after : PopEnd Order) : Type 0 where
  pub others : List Order
  pub no_stop : All (λ order. order ≢ Stop) others
  pub orders : after ≡ pops before others

-- the item held back, if one is, is a Hello that waits for more notes than there are
pub record IsHeldBack (noted : List ℕ) (item : Item) : Type 0 where
  pub after : ℕ
  pub hello : item.body ≡ Hello after
  pub fits : after < 2 ^ 64
  pub link : item.link < 256
  pub waits : slice_index noted item.link < after

abbrev pub RestsAt : {M : Type 0} → Sender M → List ℕ → ℕ → ℕ → Type 0
RestsAt s noted m q = (item : Item) → held_at (cells_of s) m q ≡ item ∷ [] → IsHeldBack noted item

-- nothing was said or noted, and what is held back is the same
pub record IsIdle {M : Type 0} (before after : Sender M) (noted_before noted_after : List ℕ) : Type 0
  where
    pub cells : cells_of after ≡ cells_of before
    pub noted : noted_after ≡ noted_before

-- the queue was tried in vain
abbrev pub is_did : Tried → Bool
is_did Did = true
is_did Waiting = false
is_did Empty = false

abbrev pub OnVain : Tried → Type 0 → Type 0
OnVain Did P = Unit {0}
OnVain Waiting P = P
OnVain Empty P = P

-- one more was counted where a Bye was said on a link
abbrev pub IsNoted : Item → List ℕ → List ℕ → Type 0
IsNoted item before after = (i : ℕ) → i < 256 → slice_index before i ≤ 2 ^ 64 - 1
    → slice_index after i ≡ min (slice_index before i + length (bye_on i item)) (2 ^ 64 - 1)
