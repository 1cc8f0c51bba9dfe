-- What follows from the definitions for every lane, for callers to cite by name.
use Rattle.std.specs.Prelude.{◌≡◌, ◌<◌, ℕ, List, [], ◌∷◌, ◌++◌, All, length}
use Rattle.m17_lane.specs.Orders.{items_of, IsWhole, IsShuffle, EachRow, picked}

-- In a lane of one producer the order is that producer's list, and what was popped stands in it before the rest.
abbrev pub OneProducerKeepsOrder : (T : Type 0) → Type 0
OneProducerKeepsOrder T =
    (p : ℕ) (l popped rest : List T) (order : List (ℕ × T))
    → IsWhole ((p, l) ∷ []) popped order rest
    → (items_of order ≡ l) × (l ≡ popped ++ rest)

-- Where f tells of each item in which row it stands, each row is the part of the order with that number, and the order has
-- no other numbers.
abbrev pub OrderIsAShuffle : (T : Type 0) → Type 0
OrderIsAShuffle T =
    (logs : List (ℕ × List T)) (order : List (ℕ × T)) → IsShuffle logs order
    → (f : T → ℕ) → EachRow (λ k l. All (λ x. f x ≡ k) l) 0 logs
    → EachRow (λ k l. l ≡ picked f k (items_of order)) 0 logs
    × All (λ x. f x < length logs) (items_of order)
