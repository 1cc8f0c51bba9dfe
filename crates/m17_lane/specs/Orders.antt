-- The order of a lane: all that was pushed, in the order of the queue, each item with the number of its producer.
use Rattle.std.specs.Prelude.{◌≡◌, ◌==◌, ℕ, suc, List, [], ◌∷◌, ◌++◌, cond, ◌⊎◌}

module _ {T : Type 0} where
  -- The items of an order, without their producers.
  abbrev pub items_of : List (ℕ × T) → List T
  items_of [] = []
  items_of (e ∷ es) = e.1 ∷ items_of es

  -- The part of an order that producer p pushed.
  abbrev pub part : ℕ → List (ℕ × T) → List T
  part p [] = []
  part p (e ∷ es) = cond (e.0 == p) (e.1 ∷ part p es) (part p es)

  -- F holds of each producer's number and list.
  abbrev pub EachLog : (ℕ → List T → Type 0) → List (ℕ × List T) → Type 0
  EachLog F [] = Unit {0}
  EachLog F (l ∷ ls) = F l.0 l.1 × EachLog F ls

  -- Among these lists is one of producer p.
  abbrev pub HasLog : ℕ → List (ℕ × List T) → Type 0
  HasLog p [] = ⊥
  HasLog p (l ∷ ls) = (l.0 ≡ p) ⊎ HasLog p ls

  -- Each item's producer has a list among these.
  abbrev pub EachKnown : List (ℕ × List T) → List (ℕ × T) → Type 0
  EachKnown ls [] = Unit {0}
  EachKnown ls (e ∷ es) = HasLog e.0 ls × EachKnown ls es

  -- No producer has two of these lists.
  abbrev pub Apart : List (ℕ × List T) → Type 0
  Apart [] = Unit {0}
  Apart (l ∷ ls) = (HasLog l.0 ls → ⊥) × Apart ls

  -- The order is a shuffle of the producers' lists: each list is its producer's part, and there are no other items.
  pub record IsShuffle (logs : List (ℕ × List T)) (order : List (ℕ × T)) : Type 0 where
    pub parts : EachLog (λ p l. l ≡ part p order) logs
    pub known : EachKnown logs order
    pub apart : Apart logs

  -- All of a lane at one moment: the order is a shuffle of the lists, and what was popped stands in it before the rest.
  pub record IsWhole (logs : List (ℕ × List T)) (popped : List T) (order : List (ℕ × T))
      (rest : List T) : Type 0 where
    pub shuffle : IsShuffle logs order
    pub queued : items_of order ≡ popped ++ rest

  -- The items of the list for which f gives k, in order.
  abbrev pub picked : (T → ℕ) → ℕ → List T → List T
  picked f k [] = []
  picked f k (x ∷ xs) = cond (f x == k) (x ∷ picked f k xs) (picked f k xs)

  -- F holds of the number of each row, counted from k, and of the row.
  abbrev pub EachRow : (ℕ → List T → Type 0) → ℕ → List (ℕ × List T) → Type 0
  EachRow F k [] = Unit {0}
  EachRow F k (l ∷ ls) = F k l.1 × EachRow F (suc k) ls
