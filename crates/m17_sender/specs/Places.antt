-- What stands at a place of a sender's queues and of the Hellos that it holds back, and what it
-- passes over.
use Rattle.std.specs.Prelude.{ℕ, Bool, ◌&&◌, nat_lt, List, [], ◌∷◌, map, length, slice_get, Option, None, Some}
use Rattle.m17_lane.specs.Ends.{PopEnd}
use Rattle.m17_control.specs.declared.item.Item.{Item}
use Rattle.m17_control.specs.declared.item.Direct.{Direct}
use Rattle.m17_sender.specs.declared.sender.Sender.{Sender}

module _ {M : Type 0} where
  -- The ends of the queues: a row for each module, in it one for each place.
  abbrev pub queues_of : Sender M → List (List (PopEnd Item))
  queues_of s = map (λ row. row.items) s.queues.items

  -- The cells for Hellos that are held back: a row for each module, in it one for each place.
  abbrev pub cells_of : Sender M → List (List (Option Item))
  cells_of s = map (λ row. row.items) s.held.items

-- what stands at a place of a grid, if the grid has it
abbrev pub in_row : {A : Type 0} → Option (List A) → ℕ → Option A
in_row None q = None
in_row (Some row) q = slice_get row q

abbrev pub at_place : {A : Type 0} → List (List A) → ℕ → ℕ → Option A
at_place rows m q = in_row (slice_get rows m) q

abbrev pub popped_by : Option (PopEnd Item) → List Item
popped_by None = []
popped_by (Some end) = end.popped

-- What was popped of queue q of module m, in order; nothing where there is no such queue.
abbrev pub popped_at : List (List (PopEnd Item)) → ℕ → ℕ → List Item
popped_at queues m q = popped_by (at_place queues m q)

abbrev pub held_in : Option (Option Item) → List Item
held_in None = []
held_in (Some None) = []
held_in (Some (Some item)) = item ∷ []

-- The item of queue q of module m that is held back, if one is.
abbrev pub held_at : List (List (Option Item)) → ℕ → ℕ → List Item
held_at cells m q = held_in (at_place cells m q)

module _ {M : Type 0} where
  -- The item is said: its link is one of the sender's, and its member's place is one of a module's.
  -- Any other is passed over.
  abbrev pub is_said : Sender M → Item → Bool
  is_said s item = nat_lt item.link (length s.mouths.items) && nat_lt item.member.place s.places

  -- The reply is said: its link is one of the sender's. Any other is passed over.
  abbrev pub is_answered : Sender M → Direct → Bool
  is_answered s direct = nat_lt direct.link (length s.mouths.items)
