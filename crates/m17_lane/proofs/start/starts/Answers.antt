use Rattle.std.proofs.Common.{suc}
use Rattle.m17_crew.specs.declared.order.Order.TheVariants.{Stop}
use Rattle.m17_lane.proofs.Steps.{once_more}
use Rattle.m17_lane.proofs.start.starts.Goals as goal

pub loop-preserved : goal.loop-preserved
loop-preserved g c =
    let before = c.loop.invariant in (
      suc before.0,
      once_more c.args.orders.now c.loop.orders c.pop_waiting.new.self before.0 Stop c.pop_waiting.result before.1 c.pop_waiting.ensures c.in-Stop.is,
    )
