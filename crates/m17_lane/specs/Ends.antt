-- What contracts see in the ends of a lane and in its trail.
use Rattle.std.specs.Prelude.{◌≡◌, ℕ, zero, suc, List, [], ◌∷◌, ◌++◌}
use Rattle.atomic_table.specs.Seated.{TableId}

-- A pusher: its lane, how many items that holds, how many producers it has, which of them this is, and what was pushed.
-- `refused` has the items that came back.
pub record PushEnd (T : Type 0) : Type 0 where
  pub lane : TableId
  pub capacity : ℕ
  pub producers : ℕ
  pub number : ℕ
  pub pushed : List T
  pub refused : List T

-- A popper: its lane, how many items that holds, how many producers it has, and what was popped.
pub record PopEnd (T : Type 0) : Type 0 where
  pub lane : TableId
  pub capacity : ℕ
  pub producers : ℕ
  pub popped : List T

-- A lane whose ends were taken back: all that was pushed in the order of the queue, and the first part of it that was
-- popped; each producer's number and list, and its refused items, as the pushers were handed in.
pub record TrailEnd (T : Type 0) : Type 0 where
  pub order : List (ℕ × T)
  pub popped : List T
  pub logs : List (ℕ × List T)
  pub refused : List (List T)

module _ {T : Type 0} where
  -- The pusher has pushed x, and is otherwise the same.
  abbrev pub pushed_to : PushEnd T → T → PushEnd T
  pushed_to q x = record q { pushed = q.pushed ++ x ∷ [] }

  -- The pusher got x back, and is otherwise the same.
  abbrev pub refused_by : PushEnd T → T → PushEnd T
  refused_by q x = record q { refused = q.refused ++ x ∷ [] }

  -- The popper has popped x, and is otherwise the same.
  abbrev pub popped_from : PopEnd T → T → PopEnd T
  popped_from q x = record q { popped = q.popped ++ x ∷ [] }

  -- The trail has given out x, and is otherwise the same.
  abbrev pub left_of : TrailEnd T → T → TrailEnd T
  left_of t x = record t { popped = t.popped ++ x ∷ [] }

  -- The popper of a new lane.
  abbrev pub new_popper : TableId → ℕ → ℕ → PopEnd T
  new_popper lane capacity producers =
      record { lane = lane; capacity = capacity; producers = producers; popped = [] }

  -- A pusher, with the next number, of the new lane that this popper is of.
  abbrev pub new_pusher : PopEnd T → ℕ → PushEnd T
  new_pusher q k = record {
    lane = q.lane;
    capacity = q.capacity;
    producers = q.producers;
    number = k;
    pushed = [];
    refused = [];
  }

  -- The pushers number 0 to n - 1 of a new lane, in this order.
  abbrev pub new_pushers : PopEnd T → ℕ → List (PushEnd T)
  new_pushers q zero = []
  new_pushers q (suc n) = new_pushers q n ++ new_pusher q n ∷ []

  -- Each of these pushers is of this lane.
  abbrev pub AreOf : TableId → List (PushEnd T) → Type 0
  AreOf lane [] = Unit {0}
  AreOf lane (p ∷ ps) = (p.lane ≡ lane) × AreOf lane ps

  -- The number of each pusher, with what it pushed.
  abbrev pub logs_of : List (PushEnd T) → List (ℕ × List T)
  logs_of [] = []
  logs_of (p ∷ ps) = (p.number, p.pushed) ∷ logs_of ps

  -- What each pusher got back.
  abbrev pub refused_of : List (PushEnd T) → List (List T)
  refused_of [] = []
  refused_of (p ∷ ps) = p.refused ∷ refused_of ps
