-- For proofs: all lanes of a run, before their ends come to the jobs.
use Rattle.std.specs.Prelude.{[], ◌∷◌, map}
use Rattle.m17_reflect.specs.declared.lanes.Lanes.{Lanes}
use Rattle.m17_reflect.specs.Ends.{Ends, IsNewLine}

-- the ends of all lanes but the orders'
abbrev pub ends_in : Lanes → Ends
ends_in lanes = record {
  columns = map (λ column. column.items) lanes.links.inboxes.items;
  inboxes = lanes.modules.inboxes.items;
  queues = map (λ row. row.items) lanes.modules.queues.items;
  heads = map (λ row. row.items) lanes.sender.queues.items;
  doors = lanes.links.doors.items;
  door = lanes.sender.door;
  notes = lanes.sender.notes.items;
  noted = lanes.links.notes.items;
}

-- there is a lane of orders for each job
pub record AreOrdered (lanes : Lanes) : Type 0 where
  pub receivers : IsNewLine 2 lanes.orders.to_receivers.items lanes.links.orders.items
  pub workers : IsNewLine 2 lanes.orders.to_workers.items lanes.modules.orders.items
  pub sender : IsNewLine 2 lanes.orders.to_sender.items (lanes.sender.order ∷ [])
