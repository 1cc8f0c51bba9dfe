use Rattle.std.proofs.Common.{length, ap, ◌∙◌, arith}
use Rattle.std.proofs.lemmas.List.{length-map}
use Rattle.m17_reflect.proofs.NewLanes.{long_pushers}
use Rattle.m17_reflect.proofs.lanes.lay_lanes.Goals as goal

pub returns-clause-links : goal.returns-clause-links
returns-clause-links c =
    let columns = c.in_ok-columns.field-0.columns in let to = c.in_ok-to_sender in
    let doors = ap length to.ensures.door.1 ∙ long_pushers to.to_sender.door c.args.links in record {
      inboxes = omega (arith, c.in_ok-columns.ensures.laid.count, length-map columns.items (λ column. column.items), columns.ok.0);
      doors = omega (arith, doors, to.to_sender.doors.ok.0);
      notes = omega (arith, c.in_ok-notes.ensures.count, c.in_ok-notes.notes.poppers.ok.0);
      orders = omega (arith, c.in_ok-to_receivers.ensures.count, c.in_ok-to_receivers.to_receivers.poppers.ok.0);
    }
