-- What was left in finished lanes.
use Rattle.std.specs.Prelude.{List, [], length, drop, Option, None, Some}
use Rattle.m17_lane.specs.Ends.{TrailEnd}
use Rattle.m17_lane.specs.Orders.{items_of}

module _ {T : Type 0} where
  -- What stands in the trail's order behind as many items as were popped.
  abbrev pub left : TrailEnd T → List T
  left t = drop (length t.popped) (items_of t.order)

  -- The trail, with all of its order popped.
  abbrev pub drained : TrailEnd T → TrailEnd T
  drained t = record t { popped = items_of t.order }

  abbrev pub left_in : Option (TrailEnd T) → List T
  left_in None = []
  left_in (Some t) = left t
