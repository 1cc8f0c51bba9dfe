-- One order of several lists, where each item tells which list it is from.
use Rattle.std.specs.Prelude.{◌≡◌, ◌<◌, ℕ, List, length, All, slice_get, Some}
use Rattle.m17_lane.specs.Orders.{picked}

module _ {T : Type 0} where
  -- f tells of an item the number of its list. The items of the order with number i are list i, in
  -- its order, and there are no others.
  pub record IsInterleaving (f : T → ℕ) (lists : List (List T)) (order : List T) : Type 0 where
    pub parts : (i : ℕ) (l : List T) → slice_get lists i ≡ Some l → l ≡ picked f i order
    pub known : All (λ x. f x < length lists) order
