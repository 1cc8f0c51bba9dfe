use Rattle.std.proofs.Common.{◌≡◌, vec_len}
use Rattle.m17_lane.specs.Rows.{push_each}
use Rattle.m17_reflect.proofs.OrdersObeyed.{upto}
use Rattle.m17_reflect.proofs.group.Group.tell.Given as goal

-- the jobs before this one were told
abbrev pub invariant-loop-at : goal.invariant-loop-at
invariant-loop-at g l = record {
  orders : l.self.orders.items ≡ push_each (upto l.order l.at) 0 l.fn.self.orders.items;
  count : vec_len l.self.orders ≡ vec_len l.fn.self.orders;
  jobs : l.self.jobs ≡ l.fn.self.jobs;
  running : l.self.running ≡ l.fn.self.running;
}
