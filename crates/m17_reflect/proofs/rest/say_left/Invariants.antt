use Rattle.std.proofs.Common.{◌≡◌, ◌-◌, List, ◌++◌, length}
use Rattle.m17_control.specs.declared.item.Item.{Item}
use Rattle.m17_lane.specs.Orders.{items_of}
use Rattle.m17_reflect.specs.Saying.{SaysItems}
use Rattle.m17_reflect.proofs.rest.say_left.Given as goal

-- these were given out and said
abbrev pub invariant-loop-item : goal.invariant-loop-item
invariant-loop-item g l = (xs : List Item) × (l.queue ≡ record l.fn.queue { popped = l.fn.queue.popped ++ xs })
    × SaysItems g.M.Mouth.told l.name xs l.fn.mouths.items l.mouths.items

abbrev pub decreases-loop-item : goal.decreases-loop-item
decreases-loop-item g l = length (items_of l.queue.order) - length l.queue.popped
