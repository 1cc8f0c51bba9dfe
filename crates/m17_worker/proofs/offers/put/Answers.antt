use Rattle.std.proofs.Common.{◌<◌, length, refl, arith}
use Rattle.m17_worker.proofs.Tries.{row_took, row_tried, row_left, full_one, within}
use Rattle.m17_worker.proofs.offers.put.Goals as goal

pub push-requires : goal.push-requires
push-requires g c =
    let h : c.args.item.member.place < length c.args.queues.now.items = within _ c.args.queues.now.items c.args.item.member.place refl c.requires.queue in
    omega (arith, h, c.args.queues.now.ok.0)

pub try_push_at-requires : goal.try_push_at-requires
try_push_at-requires g c =
    let h : c.args.item.member.place < length c.args.queues.now.items = within _ c.args.queues.now.items c.args.item.member.place refl c.requires.queue in
    omega (arith, h, c.args.queues.now.ok.0)

pub returns-then-waits-clause-queues : goal.returns-then-waits-clause-queues
returns-then-waits-clause-queues g c = row_took c.args.item c.args.queues.now.items _ c.rows_grow.ensures c.push.ensures.row

pub returns-in-Ok-clause-queues : goal.returns-in-Ok-clause-queues
returns-in-Ok-clause-queues g c = row_tried c.args.item c.args.queues.now.items _ c.rows_grow.ensures c.in-Ok.ensures.row

pub returns-in-Err-clause-queues : goal.returns-in-Err-clause-queues
returns-in-Err-clause-queues g c = row_left c.args.item c.args.queues.now.items _ c.rows_grow.ensures c.in-Err.ensures.row.1

pub returns-in-Err-clause-full : goal.returns-in-Err-clause-full
returns-in-Err-clause-full g c = λ e. full_one _ c.requires.queue c.in-Err.ensures.full
