use Rattle.std.proofs.Common.{◌≡◌, List, ◌++◌, map, All, sym, subst, refl, ap, ◌∙◌}
use Rattle.m17_crew.specs.declared.order.Order.{Order}
use Rattle.m17_lane.specs.Ends.{PopEnd}
use Rattle.m17_lane.specs.Trails.{AreTrailsOfOnes}
use Rattle.m17_roll.specs.Seat.{RollView}
use Rattle.m17_reflect.proofs.jobs.part.Goals as goal

pub finish_row-requires-clause-alone : goal.finish_row-requires-clause-alone
finish_row-requires-clause-alone g c =
    subst (λ (ps : List (PopEnd Order)). All (λ p. p.producers ≡ 1) ps) (sym c.part_links-links.ensures.orders) c.requires.jobs.to_receivers.alone

pub finish_row-requires-2-clause-alone : goal.finish_row-requires-2-clause-alone
finish_row-requires-2-clause-alone g c =
    subst (λ (ps : List (PopEnd Order)). All (λ p. p.producers ≡ 1) ps) (sym c.part_modules-modules.ensures.orders) c.requires.jobs.to_workers.alone

pub finish_row-requires-3-clause-alone : goal.finish_row-requires-3-clause-alone
finish_row-requires-3-clause-alone g c =
    subst (λ (ps : List (PopEnd Order)). All (λ p. p.producers ≡ 1) ps) (sym c.part_sender-voice.ensures.orders) c.requires.jobs.to_sender.alone

pub returns : goal.returns
returns g c =
    let staffed = c.args.staffed in let links = c.part_links-links.ensures in let modules = c.part_modules-modules.ensures in
    let l = links.parts in let m = modules.parts in record {
      links = record {
        ears = l.ears;
        traces = l.traces;
        columns = l.columns;
        doors = l.doors;
        noted = l.noted;
        tapes = l.tapes;
        lost = l.lost;
        failed = l.failed;
      };
      modules = record {
        books = m.books;
        inboxes = m.inboxes;
        queues = m.queues;
        tapes = m.tapes;
        missed = m.missed;
        admitted = m.admitted;
        failed = m.failed;
      };
      voice = c.part_sender-voice.ensures.parts;
      seats = modules.seats ∙ ap (λ (seats : List RollView). seats ++ map (λ w. w.seat) staffed.workers.jobs.items) links.seats;
      to_receivers = subst (λ (ps : List (PopEnd Order)). AreTrailsOfOnes staffed.receivers.orders.items ps c.finish_row.new.trails.items) links.orders c.finish_row.ensures.trails;
      to_workers = subst (λ (ps : List (PopEnd Order)). AreTrailsOfOnes staffed.workers.orders.items ps c.finish_row-2.new.trails.items) modules.orders c.finish_row-2.ensures.trails;
      to_sender = subst (λ (ps : List (PopEnd Order)). AreTrailsOfOnes staffed.senders.orders.items ps c.finish_row-3.new.trails.items) c.part_sender-voice.ensures.orders c.finish_row-3.ensures.trails;
      shells = refl;
      inboxes = refl;
      queues = refl;
      notes = refl;
    }
