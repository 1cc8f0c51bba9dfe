use Rattle.std.proofs.Common.{◌+◌, ◌∷◌, [], length, map, sym, subst, ap, ◌∙◌, length-append, arith}
use Rattle.std.proofs.lemmas.List.{length-map, length-replicate}
use Rattle.std.proofs.lemmas.Simd.{map-map}
use Rattle.m17_roll.specs.Seat.{AreNew, new_seat}
use Rattle.m17_reflect.specs.Bare.{bare, bare_worker}
use Rattle.m17_reflect.specs.Ends.{IsNewLine}
use Rattle.m17_plan.specs.Planned.{module_count}
use Rattle.m17_reflect.proofs.NewJobs.{laid_of, same_seats, orders_bare, all_seats}
use Rattle.m17_reflect.proofs.NewLanes.{few_modules}
use Rattle.m17_reflect.proofs.site.make_bare.Goals as goal

pub overflow_add-links : goal.overflow_add-links
overflow_add-links c =
    let few = few_modules c.args.plan.now.modules in omega (arith, few, c.count.ensures, c.requires.links.1)

pub bare_workers-requires-clause-seats : goal.bare_workers-requires-clause-seats
bare_workers-requires-clause-seats c =
    let new = c.in_ok-seats.ensures in
    let long = ap length new.1 ∙ length-replicate (c.args.links + c.count.result) (new_seat new.0 (c.args.links + c.count.result) c.args.plan.now.places) in
    omega (arith, long, c.count.ensures, c.in_ok-seats.seats.ok.0)

pub bare_receivers-requires-clause-seats : goal.bare_receivers-requires-clause-seats
bare_receivers-requires-clause-seats c =
    let new = c.in_ok-seats.ensures in let workers = c.in_ok-workers in let mid = c.bare_workers.new.seats in
    let long = ap length new.1 ∙ length-replicate (c.args.links + c.count.result) (new_seat new.0 (c.args.links + c.count.result) c.args.plan.now.places) in
    let parts = ap length workers.ensures.seats ∙ length-append mid.items (map (λ w. w.seat) workers.workers.items) in
    let letters = ap length workers.ensures.letters ∙ ap length c.in_ok-letters.ensures.letters in
    omega (arith, long, parts, letters, c.count.ensures, mid.ok.0, length-map workers.workers.items (λ w. w.seat), length-map workers.workers.items (λ w. w.letter))

pub returns-clause-bare : goal.returns-clause-bare
returns-clause-bare c =
    let plan = c.args.plan.now in let links = c.args.links in let n = module_count plan in
    let workers = c.in_ok-workers in let receivers = c.in_ok-receivers in let sender = c.in_ok-sender in
    let js = receivers.receivers.items in let ws = workers.workers.items in
    let new = subst (λ k. AreNew plan.places (links + k) c.in_ok-seats.seats.items) c.count.ensures c.in_ok-seats.ensures in
    let letters = ap length workers.ensures.letters ∙ ap length c.in_ok-letters.ensures.letters in record {
      laid = laid_of links n plan.places c.args.lanes js ws sender.sender c.requires.laid receivers.ensures.ends workers.ensures.ends sender.ensures.ends;
      receivers = receivers.ensures.new;
      receiver_count = omega (arith, length-map js bare, receivers.ensures.count, receivers.receivers.ok.0);
      workers = workers.ensures.new;
      letters = map-map (λ w. w.letter) bare_worker ws ∙ workers.ensures.letters ∙ c.in_ok-letters.ensures.letters;
      sender = sender.ensures.new;
      seats = subst (λ seats. AreNew plan.places (links + n) seats) (sym (same_seats js ws))
          (all_seats plan.places (links + n) c.in_ok-seats.seats.items c.bare_workers.new.seats.items c.bare_receivers.new.seats.items
          (map (λ j. j.seat) js) (map (λ w. w.seat) ws) new workers.ensures.seats receivers.ensures.seats
          (omega (arith, letters, receivers.ensures.count, receivers.receivers.ok.0, length-map js (λ j. j.seat), length-map ws (λ w. w.seat), length-map ws (λ w. w.letter))));
    }

pub returns-clause-to_receivers : goal.returns-clause-to_receivers
returns-clause-to_receivers c =
    let qs = c.args.lanes.orders.to_receivers.items in
    orders_bare (λ j. j.order) bare qs c.in_ok-receivers.receivers.items (subst (λ ps. IsNewLine 2 qs ps) c.in_ok-receivers.ensures.ends.orders c.requires.orders.receivers)

pub returns-clause-to_workers : goal.returns-clause-to_workers
returns-clause-to_workers c =
    let qs = c.args.lanes.orders.to_workers.items in
    orders_bare (λ w. w.order) bare_worker qs c.in_ok-workers.workers.items (subst (λ ps. IsNewLine 2 qs ps) c.in_ok-workers.ensures.ends.orders c.requires.orders.workers)

pub returns-clause-to_sender : goal.returns-clause-to_sender
returns-clause-to_sender c =
    let qs = c.args.lanes.orders.to_sender.items in
    subst (λ p. IsNewLine 2 qs (p ∷ [])) (sym c.in_ok-sender.ensures.ends.order) c.requires.orders.sender
