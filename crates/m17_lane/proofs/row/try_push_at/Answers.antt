use Rattle.std.proofs.Common.{arith}
use Rattle.m17_lane.proofs.Steps.{tried_at, full_at}
use Rattle.m17_lane.proofs.row.try_push_at.Goals as goal

pub returns-clause-row : goal.returns-clause-row
returns-clause-row g c =
    tried_at c.try_push_unrung.result c.args.row.now.items c.args.at c.index_mut.result.now c.try_push_unrung.new.self c.args.item
    (omega (arith, c.args.row.now.ok.0, c.requires)) c.index_mut.ensures.value c.try_push_unrung.ensures.pushed

pub returns-clause-full : goal.returns-clause-full
returns-clause-full g c =
    full_at c.try_push_unrung.result c.args.row.now.items c.args.at c.index_mut.result.now
    (omega (arith, c.args.row.now.ok.0, c.requires)) c.index_mut.ensures.value c.try_push_unrung.ensures.full
