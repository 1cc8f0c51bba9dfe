use Rattle.std.proofs.Common.{◌≡◌, ℕ, replicate}
use Rattle.m17_crew.specs.declared.order.Order.TheVariants.{Stop}
use Rattle.m17_lane.specs.Rows.{pops}
use Rattle.m17_lane.proofs.start.starts.Given as goal

-- so far only Stops were popped
abbrev pub invariant-loop : goal.invariant-loop
invariant-loop g l = (stops : ℕ) × (l.orders ≡ pops l.fn.orders (replicate stops Stop))
