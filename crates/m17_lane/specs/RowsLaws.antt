-- What follows from the definitions for every row, for callers to cite by name.
use Rattle.std.specs.Prelude.{◌≡◌, ◌≢◌, ℕ, ◌<◌, Bool, if◌then◌else◌, List, [], ◌∷◌, ◌++◌, length, slice_get, slice_set, Some, option_map}
use Rattle.m17_lane.specs.Ends.{PushEnd, PopEnd}
use Rattle.m17_lane.specs.Rows.{pushes, grows, pops, push_each, grow_each, pop_each, only, nowhere, IsSameRow, IsSamePopRow, IsNewRow, IsNewPopRow, IsNewPopper}
use Rattle.m17_lane.specs.Grids.{pop_grid, only_in, IsSameGrid}
use Rattle.m17_lane.specs.Starts.{HasStarted}
use Rattle.m17_crew.specs.declared.order.Order.{Order}
use Rattle.m17_crew.specs.declared.order.Order.TheVariants.{Go, Quit, Stop}

-- How pushes at the ends of a row compose: none, one, one lot after another, and place by place; and
-- what an end of a new row has pushed then.
pub record RowsPush (T : Type 0) : Type 0 where
  pub none : (f : ℕ → List T) (k : ℕ) (ps : List (PushEnd T)) → ((i : ℕ) → f i ≡ [])
      → push_each f k ps ≡ ps
  pub one : (ps : List (PushEnd T)) (m : ℕ) (p : PushEnd T) (x : T) → slice_get ps m ≡ Some p
      → slice_set ps m (pushes p (x ∷ [])) ≡ push_each (only m x) 0 ps
  pub twice : (f g : ℕ → List T) (k : ℕ) (ps : List (PushEnd T))
      → push_each g k (push_each f k ps) ≡ push_each (λ i. f i ++ g i) k ps
  pub same : (f g : ℕ → List T) (ps : List (PushEnd T))
      → ((i : ℕ) → i < length ps → f i ≡ g i) → push_each f 0 ps ≡ push_each g 0 ps
  pub count : (f : ℕ → List T) (k : ℕ) (ps : List (PushEnd T))
      → length (push_each f k ps) ≡ length ps
  pub at : (f : ℕ → List T) (ps : List (PushEnd T)) (m : ℕ)
      → slice_get (push_each f 0 ps) m ≡ option_map (λ p. pushes p (f m)) (slice_get ps m)
  pub by_place : (f : ℕ → List T) (ps qs : List (PushEnd T)) → length qs ≡ length ps
      → ((m : ℕ) (p q : PushEnd T) → slice_get ps m ≡ Some p → slice_get qs m ≡ Some q
      → q ≡ pushes p (f m)) → qs ≡ push_each f 0 ps
  pub kept : (f : ℕ → List T) (k : ℕ) (ps : List (PushEnd T)) → IsSameRow ps (push_each f k ps)
  pub from_new : (f : ℕ → List T) (ps : List (PushEnd T)) (m : ℕ) (q : PushEnd T) → IsNewRow ps
      → slice_get (push_each f 0 ps) m ≡ Some q → q.pushed ≡ f m

-- The same of pushes and refusals at the ends of a row; without refusals they are pushes alone.
pub record RowsGrow (T : Type 0) : Type 0 where
  pub none : (f g : ℕ → List T) (k : ℕ) (ps : List (PushEnd T)) → ((i : ℕ) → f i ≡ [])
      → ((i : ℕ) → g i ≡ []) → grow_each f g k ps ≡ ps
  pub one : (ps : List (PushEnd T)) (m : ℕ) (p : PushEnd T) (x : T) → slice_get ps m ≡ Some p
      → slice_set ps m (grows p (x ∷ []) []) ≡ grow_each (only m x) nowhere 0 ps
  pub one_back : (ps : List (PushEnd T)) (m : ℕ) (p : PushEnd T) (x : T) → slice_get ps m ≡ Some p
      → slice_set ps m (grows p [] (x ∷ [])) ≡ grow_each nowhere (only m x) 0 ps
  pub twice : (f g f' g' : ℕ → List T) (k : ℕ) (ps : List (PushEnd T))
      → grow_each f' g' k (grow_each f g k ps)
      ≡ grow_each (λ i. f i ++ f' i) (λ i. g i ++ g' i) k ps
  pub same : (f g f' g' : ℕ → List T) (ps : List (PushEnd T))
      → ((i : ℕ) → i < length ps → f i ≡ f' i) → ((i : ℕ) → i < length ps → g i ≡ g' i)
      → grow_each f g 0 ps ≡ grow_each f' g' 0 ps
  pub count : (f g : ℕ → List T) (k : ℕ) (ps : List (PushEnd T))
      → length (grow_each f g k ps) ≡ length ps
  pub at : (f g : ℕ → List T) (ps : List (PushEnd T)) (m : ℕ)
      → slice_get (grow_each f g 0 ps) m
      ≡ option_map (λ p. grows p (f m) (g m)) (slice_get ps m)
  pub kept : (f g : ℕ → List T) (k : ℕ) (ps : List (PushEnd T))
      → IsSameRow ps (grow_each f g k ps)
  pub from_new : (f g : ℕ → List T) (ps : List (PushEnd T)) (m : ℕ) (q : PushEnd T)
      → IsNewRow ps → slice_get (grow_each f g 0 ps) m ≡ Some q
      → (q.pushed ≡ f m) × (q.refused ≡ g m)
  pub pushed_alone : (f : ℕ → List T) (k : ℕ) (ps : List (PushEnd T))
      → grow_each f nowhere k ps ≡ push_each f k ps

-- The same of pops at the ends of a row.
pub record RowsPop (T : Type 0) : Type 0 where
  pub none : (f : ℕ → List T) (k : ℕ) (ps : List (PopEnd T)) → ((i : ℕ) → f i ≡ [])
      → pop_each f k ps ≡ ps
  pub one : (ps : List (PopEnd T)) (m : ℕ) (p : PopEnd T) (x : T) → slice_get ps m ≡ Some p
      → slice_set ps m (pops p (x ∷ [])) ≡ pop_each (only m x) 0 ps
  pub twice : (f g : ℕ → List T) (k : ℕ) (ps : List (PopEnd T))
      → pop_each g k (pop_each f k ps) ≡ pop_each (λ i. f i ++ g i) k ps
  pub same : (f g : ℕ → List T) (ps : List (PopEnd T))
      → ((i : ℕ) → i < length ps → f i ≡ g i) → pop_each f 0 ps ≡ pop_each g 0 ps
  pub count : (f : ℕ → List T) (k : ℕ) (ps : List (PopEnd T))
      → length (pop_each f k ps) ≡ length ps
  pub at : (f : ℕ → List T) (ps : List (PopEnd T)) (m : ℕ)
      → slice_get (pop_each f 0 ps) m ≡ option_map (λ p. pops p (f m)) (slice_get ps m)
  pub by_place : (f : ℕ → List T) (ps qs : List (PopEnd T)) → length qs ≡ length ps
      → ((m : ℕ) (p q : PopEnd T) → slice_get ps m ≡ Some p → slice_get qs m ≡ Some q
      → q ≡ pops p (f m)) → qs ≡ pop_each f 0 ps
  pub kept : (f : ℕ → List T) (k : ℕ) (ps : List (PopEnd T)) → IsSamePopRow ps (pop_each f k ps)
  pub from_new : (f : ℕ → List T) (ps : List (PopEnd T)) (m : ℕ) (q : PopEnd T) → IsNewPopRow ps
      → slice_get (pop_each f 0 ps) m ≡ Some q → q.popped ≡ f m

-- The same of pops at the ends of a grid; of one row it is a row's.
pub record GridsPop (T : Type 0) : Type 0 where
  pub none : (f : ℕ → ℕ → List T) (k : ℕ) (rows : List (List (PopEnd T)))
      → ((m q : ℕ) → f m q ≡ []) → pop_grid f k rows ≡ rows
  pub one : (rows : List (List (PopEnd T))) (m q : ℕ) (row : List (PopEnd T)) (x : T)
      → slice_get rows m ≡ Some row
      → slice_set rows m (pop_each (only q x) 0 row) ≡ pop_grid (only_in m q x) 0 rows
  pub twice : (f g : ℕ → ℕ → List T) (k : ℕ) (rows : List (List (PopEnd T)))
      → pop_grid g k (pop_grid f k rows) ≡ pop_grid (λ m q. f m q ++ g m q) k rows
  pub same : (f g : ℕ → ℕ → List T) (rows : List (List (PopEnd T)))
      → ((m q : ℕ) → m < length rows → f m q ≡ g m q) → pop_grid f 0 rows ≡ pop_grid g 0 rows
  pub count : (f : ℕ → ℕ → List T) (k : ℕ) (rows : List (List (PopEnd T)))
      → length (pop_grid f k rows) ≡ length rows
  pub at : (f : ℕ → ℕ → List T) (rows : List (List (PopEnd T))) (m : ℕ)
      → slice_get (pop_grid f 0 rows) m ≡ option_map (pop_each (f m) 0) (slice_get rows m)
  pub kept : (f : ℕ → ℕ → List T) (k : ℕ) (rows : List (List (PopEnd T)))
      → IsSameGrid rows (pop_grid f k rows)

-- A job obeys the first order of its lane, where that is no Stop, and pops it alone before it
-- starts.
abbrev pub FirstOrderDecides : Type 0
FirstOrderDecides =
    (before after : PopEnd Order) (goes : Bool) (first : Order) (more rest : List Order)
    → IsNewPopper before → HasStarted before goes after
    → first ∷ more ≡ after.popped ++ rest → first ≢ Stop
    → (first ≡ (if goes then Go else Quit)) × (after.popped ≡ first ∷ [])
