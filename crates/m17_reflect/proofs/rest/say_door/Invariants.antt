use Rattle.std.proofs.Common.{◌≡◌, ◌-◌, List, ◌++◌, length}
use Rattle.m17_control.specs.declared.item.Direct.{Direct}
use Rattle.m17_lane.specs.Orders.{items_of}
use Rattle.m17_reflect.specs.Saying.{SaysReplies}
use Rattle.m17_reflect.proofs.rest.say_door.Given as goal

-- these were given out and said
abbrev pub invariant-loop-reply : goal.invariant-loop-reply
invariant-loop-reply g l = (xs : List Direct) × (l.door ≡ record l.fn.door { popped = l.fn.door.popped ++ xs })
    × SaysReplies g.M.Mouth.told xs l.fn.mouths.items l.mouths.items

abbrev pub decreases-loop-reply : goal.decreases-loop-reply
decreases-loop-reply g l = length (items_of l.door.order) - length l.door.popped
