use Rattle.std.proofs.Common.{if◌then◌else◌}
use Rattle.m17_crew.specs.declared.order.Order.TheVariants.{Go, Quit, Stop}
use Rattle.m17_lane.proofs.Steps.{decides}
use Rattle.m17_lane.proofs.rows_laws.first_order_decides.Goals as goal

pub returns : goal.returns
returns c = λ before after goes first more rest new started e isnt.
    decides before after started.stops Stop first (if goes then Go else Quit) more rest new started.orders e isnt
