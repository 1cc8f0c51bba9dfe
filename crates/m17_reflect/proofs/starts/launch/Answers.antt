use Rattle.std.proofs.Common.{[], ◌∷◌, ◌++◌, ◌≡◌, reverse, ◌∙◌, sym, ap}
use Rattle.m17_crew.specs.declared.order.Order.TheVariants.{Go, Stop}
use Rattle.m17_lane.specs.Rows.{push_each}
use Rattle.m17_reflect.proofs.OrdersObeyed.{told_twice}
use Rattle.m17_reflect.proofs.starts.launch.Goals as goal

pub returns-in-Ok-clause-last : goal.returns-in-Ok-clause-last
returns-in-Ok-clause-last g c =
    let was = c.start_groups.new.last in let go = c.tell-in-Ok-2.new.self in let stop = c.stop_last.new.last in
    let same : stop.jobs ≡ was.jobs = c.stop_last.ensures.jobs ∙ c.tell-in-Ok-2.ensures.jobs in
    let runs : stop.running ≡ was.running = c.stop_last.ensures.running ∙ c.tell-in-Ok-2.ensures.running in record {
      jobs = c.join-in-Ok-2.ensures.done c.args.last.now.jobs.items
          (c.start_groups.ensures.last.in_order ∙ sym (ap (λ w. w.items ++ reverse stop.running.items) same ∙ ap (λ r. was.jobs.items ++ reverse r.items) runs))
          (ap (λ w. w.items) same ∙ c.in-Ok.ensures.all.2);
      orders = ap (λ w. w.items) c.join-in-Ok-2.ensures.orders
          ∙ told_twice c.rows_push.ensures Go Stop c.args.last.now.orders.items go.orders.items stop.orders.items
          (c.tell-in-Ok-2.ensures.orders ∙ ap (λ w. push_each (λ _. Go ∷ []) 0 w.items) c.start_groups.ensures.orders.2)
          c.stop_last.ensures.orders;
    }
