-- What the trails of many lanes have to do with the ends that were handed in.
use Rattle.std.specs.Prelude.{◌≡◌, ℕ, List, [], ◌∷◌, ◌++◌, length, slice_get, Some}
use Rattle.m17_lane.specs.Ends.{PushEnd, PopEnd, TrailEnd, logs_of, refused_of}
use Rattle.m17_lane.specs.Orders.{items_of, IsWhole}
use Rattle.m17_lane.specs.Columns.{row_at}

module _ {T : Type 0} where
  -- The trail of the lane whose pushers are this row, and whose popper is p: what each of them has.
  pub record IsTrailOf (row : List (PushEnd T)) (p : PopEnd T) (t : TrailEnd T) : Type 0 where
    pub logs : t.logs ≡ logs_of row
    pub refused : t.refused ≡ refused_of row
    pub popped : t.popped ≡ p.popped
    pub whole : (rest : List T) × IsWhole t.logs t.popped t.order rest

  -- The trail of a lane of one producer: the order is what that pushed, and begins with what was
  -- popped.
  pub record IsTrailOfOne (q : PushEnd T) (p : PopEnd T) (t : TrailEnd T) : Type 0 where
    pub trail : IsTrailOf (q ∷ []) p t
    pub order : items_of t.order ≡ q.pushed
    pub settled : (rest : List T) × (q.pushed ≡ p.popped ++ rest)

  -- One trail for each popper, in order: that of its lane, whose pushers stand in the columns at its
  -- place.
  pub record AreTrails (columns : List (List (PushEnd T))) (poppers : List (PopEnd T))
      (trails : List (TrailEnd T)) : Type 0 where
    pub count : length trails ≡ length poppers
    pub each : (m : ℕ) (p : PopEnd T) (t : TrailEnd T) → slice_get poppers m ≡ Some p
        → slice_get trails m ≡ Some t → IsTrailOf (row_at m columns) p t

  -- One trail for each pusher and its popper, in order.
  pub record AreTrailsOfOnes (pushers : List (PushEnd T)) (poppers : List (PopEnd T))
      (trails : List (TrailEnd T)) : Type 0 where
    pub count : length trails ≡ length poppers
    pub each : (m : ℕ) (q : PushEnd T) (p : PopEnd T) (t : TrailEnd T)
        → slice_get pushers m ≡ Some q → slice_get poppers m ≡ Some p
        → slice_get trails m ≡ Some t → IsTrailOfOne q p t
