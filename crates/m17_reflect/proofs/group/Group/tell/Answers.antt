use Rattle.std.proofs.Common.{refl, ◌∙◌, ◌+◌, arith}
use Rattle.m17_reflect.proofs.OrdersObeyed.{told_none, told_more, told_all}
use Rattle.m17_reflect.proofs.group.Group.tell.Goals as goal

pub loop-at-init : goal.loop-at-init
loop-at-init g c = record {
  orders = told_none c.rows_push.ensures c.args.order c.args.self.now.orders.items;
  count = refl;
  jobs = refl;
  running = refl;
}

pub loop-at-preserved : goal.loop-at-preserved
loop-at-preserved g c = let before = c.loop-at.invariant in record {
  orders = told_more c.rows_push.ensures c.args.order c.loop-at.at (c.loop-at.at + 1) c.args.self.now.orders.items c.loop-at.self.orders.items
      c.push_at.new.row.items refl before.orders c.push_at.ensures.row;
  count = c.push_at.ensures.same_length ∙ before.count;
  jobs = before.jobs;
  running = before.running;
}

pub returns-clause-orders : goal.returns-clause-orders
returns-clause-orders g c = let before = c.loop-at.invariant in
    told_all c.rows_push.ensures c.args.order c.loop-at.at c.args.self.now.orders.items c.loop-at.self.orders.items
    (omega arith) before.orders
