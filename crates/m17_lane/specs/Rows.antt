-- Rows of ends of lanes: what each end of a row has pushed, got back or popped, by its place.
use Rattle.std.specs.Prelude.{◌≡◌, ℕ, suc, ◌==◌, if◌then◌else◌, List, [], ◌∷◌, ◌++◌, map, All}
use Rattle.m17_lane.specs.Ends.{PushEnd, PopEnd}

module _ {T : Type 0} where
  -- The end has pushed these too, and is otherwise the same.
  abbrev pub pushes : PushEnd T → List T → PushEnd T
  pushes q xs = record q { pushed = q.pushed ++ xs }

  -- The end has pushed these too and got those back, and is otherwise the same.
  abbrev pub grows : PushEnd T → List T → List T → PushEnd T
  grows q xs ys = record q { pushed = q.pushed ++ xs; refused = q.refused ++ ys }

  -- The end has popped these too, and is otherwise the same.
  abbrev pub pops : PopEnd T → List T → PopEnd T
  pops q xs = record q { popped = q.popped ++ xs }

  -- The end with number i, counted from k, has pushed f i too.
  abbrev pub push_each : (ℕ → List T) → ℕ → List (PushEnd T) → List (PushEnd T)
  push_each f k [] = []
  push_each f k (q ∷ qs) = pushes q (f k) ∷ push_each f (suc k) qs

  -- The end with number i, counted from k, has pushed f i too and got g i back.
  abbrev pub grow_each : (ℕ → List T) → (ℕ → List T) → ℕ → List (PushEnd T) → List (PushEnd T)
  grow_each f g k [] = []
  grow_each f g k (q ∷ qs) = grows q (f k) (g k) ∷ grow_each f g (suc k) qs

  -- The end with number i, counted from k, has popped f i too.
  abbrev pub pop_each : (ℕ → List T) → ℕ → List (PopEnd T) → List (PopEnd T)
  pop_each f k [] = []
  pop_each f k (q ∷ qs) = pops q (f k) ∷ pop_each f (suc k) qs

  -- x alone at place m, and nothing at any other place.
  abbrev pub only : ℕ → T → ℕ → List T
  only m x i = if i == m then x ∷ [] else []

  -- Nothing at any place.
  abbrev pub nowhere : ℕ → List T
  nowhere i = []

  -- The end has pushed nothing and got nothing back.
  abbrev pub IsNewPusher : PushEnd T → Type 0
  IsNewPusher q = (q.pushed ≡ []) × (q.refused ≡ [])

  -- The end has popped nothing.
  abbrev pub IsNewPopper : PopEnd T → Type 0
  IsNewPopper q = q.popped ≡ []

  -- No end of the row has pushed anything or got anything back.
  abbrev pub IsNewRow : List (PushEnd T) → Type 0
  IsNewRow qs = All IsNewPusher qs

  -- No end of the row has popped anything.
  abbrev pub IsNewPopRow : List (PopEnd T) → Type 0
  IsNewPopRow qs = All IsNewPopper qs

  -- The end as it was when it was new: its lane, capacity, producers and number alone.
  abbrev pub as_new : PushEnd T → PushEnd T
  as_new q = record q { pushed = []; refused = [] }

  -- The end as it was when it was new: its lane, capacity and producers alone.
  abbrev pub as_new_popper : PopEnd T → PopEnd T
  as_new_popper q = record q { popped = [] }

  -- The same ends of the same lanes at the same places, whatever went through them.
  abbrev pub IsSameRow : List (PushEnd T) → List (PushEnd T) → Type 0
  IsSameRow before after = map as_new after ≡ map as_new before

  -- The same ends of the same lanes at the same places, whatever went through them.
  abbrev pub IsSamePopRow : List (PopEnd T) → List (PopEnd T) → Type 0
  IsSamePopRow before after = map as_new_popper after ≡ map as_new_popper before
