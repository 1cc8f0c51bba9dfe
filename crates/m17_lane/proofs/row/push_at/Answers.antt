use Rattle.std.proofs.Common.{arith}
use Rattle.m17_lane.proofs.Steps.{pushed_at}
use Rattle.m17_lane.proofs.row.push_at.Goals as goal

pub returns-clause-row : goal.returns-clause-row
returns-clause-row g c =
    pushed_at c.args.row.now.items c.args.at c.index_mut.result.now c.push_waiting.new.self c.args.item
    (omega (arith, c.args.row.now.ok.0, c.requires)) c.index_mut.ensures.value c.push_waiting.ensures
