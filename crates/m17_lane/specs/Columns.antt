-- Columns of ends of lanes: each column has one producer's ends, and each row the ends of one lane.
use Rattle.std.specs.Prelude.{◌≡◌, ℕ, suc, List, [], ◌∷◌, ◌++◌, length, map, All, slice_get}
use Rattle.std.specs.List.{filter_map, range_with_len}
use Rattle.atomic_table.specs.Seated.{TableId}
use Rattle.m17_lane.specs.Ends.{PushEnd, PopEnd}
use Rattle.m17_lane.specs.Rows.{push_each}

module _ {A : Type 0} where
  -- Each list with one item more at its end: the item at the same place of the row.
  abbrev pub each_with : List (List A) → List A → List (List A)
  each_with [] xs = []
  each_with (c ∷ cs) [] = []
  each_with (c ∷ cs) (x ∷ xs) = (c ++ x ∷ []) ∷ each_with cs xs

  -- What the lists have at place m, in the order of the lists.
  abbrev pub row_at : ℕ → List (List A) → List A
  row_at m columns = filter_map (λ column. slice_get column m) columns

module _ {T : Type 0} where
  -- The end at place m of column i, columns counted from k, has pushed f i m too.
  abbrev pub push_grid : (ℕ → ℕ → List T) → ℕ → List (List (PushEnd T)) → List (List (PushEnd T))
  push_grid f k [] = []
  push_grid f k (column ∷ columns) = push_each (f k) 0 column ∷ push_grid f (suc k) columns

  -- The lanes of the ends, in order.
  abbrev pub lanes_of : List (PushEnd T) → List TableId
  lanes_of ends = map (λ q. q.lane) ends

  -- The lanes of the poppers, in order.
  abbrev pub lanes_popped : List (PopEnd T) → List TableId
  lanes_popped poppers = map (λ p. p.lane) poppers

  -- Each column has an end of each popper's lane, in the order of the poppers, and each lane has as
  -- many producers as there are columns.
  pub record IsGrid (columns : List (List (PushEnd T))) (poppers : List (PopEnd T)) : Type 0 where
    pub lanes : All (λ column. lanes_of column ≡ lanes_popped poppers) columns
    pub producers : All (λ p. p.producers ≡ length columns) poppers

  -- The lists f 0, f 1 .. of that many producers, each with its number.
  abbrev pub numbered : (ℕ → List T) → ℕ → List (ℕ × List T)
  numbered f n = map (λ i. (i, f i)) (range_with_len 0 n)
