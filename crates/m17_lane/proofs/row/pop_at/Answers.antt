use Rattle.std.proofs.Common.{arith}
use Rattle.m17_lane.proofs.Steps.{popped_at}
use Rattle.m17_lane.proofs.row.pop_at.Goals as goal

pub returns-clause-row : goal.returns-clause-row
returns-clause-row g c =
    popped_at c.try_pop.result c.args.row.now.items c.args.at c.index_mut.result.now c.try_pop.new.self
    (omega (arith, c.args.row.now.ok.0, c.requires)) c.index_mut.ensures.value c.try_pop.ensures
