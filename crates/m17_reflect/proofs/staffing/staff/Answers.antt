use Rattle.std.proofs.Common.{◌∷◌, [], ◌++◌, All, length, map, vec_len, sym, subst, ap, ◌∙◌, arith}
use Rattle.std.proofs.lemmas.List.{length-map}
use Rattle.std.proofs.lemmas.List.Elements.{All-from_recursion}
use Rattle.m17_sender.specs.Ready.{IsReady}
use Rattle.m17_reflect.specs.Bare.{bare, bare_worker}
use Rattle.m17_reflect.specs.Ends.{AreLaid, IsNewLine, ends_of}
use Rattle.m17_plan.specs.Planned.{module_count}
use Rattle.m17_reflect.specs.Site.{AreBare, AreOrdersOf}
use Rattle.m17_reflect.proofs.NewJobs.{laid_too, orders_too, staffed, jobs_are, receivers_ready, workers_ready, sender_ready}
use Rattle.m17_reflect.proofs.staffing.staff.Given.{Over}
use Rattle.m17_reflect.proofs.staffing.staff.Goals.{After-with_mouths}
use Rattle.m17_reflect.proofs.staffing.staff.Goals as goal

module _ (g : Over) (c : After-with_mouths g) where
  -- the jobs are those of the site, with the ends that its lanes were laid with
  as_made : AreBare c.args.site.plan (vec_len c.args.ears.now) (map bare c.staff_receivers.new.jobs.items) (map bare_worker c.staff_workers.new.jobs.items) c.with_mouths.result
  as_made =
      let site = c.args.site in
      staffed site.plan (vec_len c.args.ears.now) site.receivers.items site.workers.items site.sender c.staff_receivers.new.jobs.items c.staff_workers.new.jobs.items c.with_mouths.result
      c.staff_receivers.ensures.bare c.staff_workers.ensures.bare c.with_mouths.ensures.rest c.requires.site.made

  as_laid : AreLaid (vec_len c.args.ears.now) (module_count c.args.site.plan) c.args.site.plan.places (ends_of c.staff_receivers.new.jobs.items c.staff_workers.new.jobs.items c.with_mouths.result)
  as_laid =
      let plan = c.args.site.plan in
      laid_too (vec_len c.args.ears.now) (module_count plan) plan.places c.staff_receivers.new.jobs.items c.staff_workers.new.jobs.items c.with_mouths.result as_made.laid

pub staff_receivers-requires-clause-ears : goal.staff_receivers-requires-clause-ears
staff_receivers-requires-clause-ears g c =
    let site = c.args.site in omega (arith, c.requires.site.made.receiver_count, length-map site.receivers.items bare, site.receivers.ok.0)

pub staff_receivers-requires-clause-traces : goal.staff_receivers-requires-clause-traces
staff_receivers-requires-clause-traces g c =
    let site = c.args.site in omega (arith, c.requires.traces, c.requires.site.made.receiver_count, length-map site.receivers.items bare, site.receivers.ok.0)

pub staff_receivers-requires-clause-room : goal.staff_receivers-requires-clause-room
staff_receivers-requires-clause-room g c =
    let site = c.args.site in (
      c.requires.site.receivers.jobs.0,
      omega (arith, c.requires.site.receivers.jobs.1, c.requires.site.made.receiver_count, length-map site.receivers.items bare, site.receivers.ok.0),
    )

pub staff_workers-requires-clause-books : goal.staff_workers-requires-clause-books
staff_workers-requires-clause-books g c =
    let site = c.args.site in let letters = ap length c.requires.site.made.letters in
    omega (arith, c.requires.books, letters, length-map site.workers.items bare_worker, length-map (map bare_worker site.workers.items) (λ w. w.letter), site.workers.ok.0)

pub staff_workers-requires-clause-room : goal.staff_workers-requires-clause-room
staff_workers-requires-clause-room g c =
    let site = c.args.site in let letters = ap length c.requires.site.made.letters in (
      c.requires.site.workers.jobs.0,
      omega (arith, c.requires.site.workers.jobs.1, letters, length-map site.workers.items bare_worker, length-map (map bare_worker site.workers.items) (λ w. w.letter), site.workers.ok.0),
    )

pub push_reserved-requires : goal.push_reserved-requires
push_reserved-requires g c =
    let jobs = c.args.site.staffed.senders.jobs in let none = ap length c.requires.site.sender.jobs.0 in omega (arith, none, c.requires.site.sender.jobs.1, jobs.ok.0)

pub returns-clause-jobs : goal.returns-clause-jobs
returns-clause-jobs g c =
    let site = c.args.site in let links = vec_len c.args.ears.now in let s = c.with_mouths.result in
    let js = c.staff_receivers.new.jobs.items in let ws = c.staff_workers.new.jobs.items in
    let a = (goal.at.returns-clause-jobs g c).After-with_mouths in let made = as_made g a in let laid = as_laid g a in (
      s,
      c.push_reserved.ensures.items ∙ ap (λ l. l ++ s ∷ []) c.requires.site.sender.jobs.0,
      c.with_mouths.ensures.mouths,
      jobs_are site.plan links js ws s made laid,
    )

pub returns-clause-to_receivers : goal.returns-clause-to_receivers
returns-clause-to_receivers g c =
    let qs = c.args.site.staffed.receivers.orders.items in
    orders_too (λ j. j.order) bare qs c.staff_receivers.new.jobs.items (subst (λ bs. AreOrdersOf (λ j. j.order) qs bs) (sym c.staff_receivers.ensures.bare) c.requires.site.to_receivers)

pub returns-clause-to_workers : goal.returns-clause-to_workers
returns-clause-to_workers g c =
    let qs = c.args.site.staffed.workers.orders.items in
    orders_too (λ w. w.order) bare_worker qs c.staff_workers.new.jobs.items (subst (λ bs. AreOrdersOf (λ w. w.order) qs bs) (sym c.staff_workers.ensures.bare) c.requires.site.to_workers)

pub returns-clause-to_sender : goal.returns-clause-to_sender
returns-clause-to_sender g c =
    let s = c.with_mouths.result in let qs = c.args.site.staffed.senders.orders.items in
    let jobs = c.push_reserved.ensures.items ∙ ap (λ l. l ++ s ∷ []) c.requires.site.sender.jobs.0 in
    subst (λ ss. AreOrdersOf (λ t. t.order) qs ss) (sym jobs) (subst (λ p. IsNewLine 2 qs (p ∷ [])) (sym c.with_mouths.ensures.rest.order) c.requires.site.to_sender)

pub returns-clause-receivers : goal.returns-clause-receivers
returns-clause-receivers g c =
    let site = c.args.site in let links = vec_len c.args.ears.now in let s = c.with_mouths.result in let qs = site.staffed.receivers.orders.items in
    let js = c.staff_receivers.new.jobs.items in let ws = c.staff_workers.new.jobs.items in
    let a = (goal.at.returns-clause-receivers g c).After-with_mouths in let made = as_made g a in let laid = as_laid g a in
    let orders = orders_too (λ j. j.order) bare qs js (subst (λ bs. AreOrdersOf (λ j. j.order) qs bs) (sym c.staff_receivers.ensures.bare) c.requires.site.to_receivers) in
    let long = ap length c.staff_receivers.ensures.ears in record {
      each = receivers_ready site.plan links js ws s made laid g.E.Ear.told g.B.Book.told qs c.args.ears.now.items c.args.traces.now.items c.requires.plan orders c.staff_receivers.ensures.ears c.staff_receivers.ensures.traces c.requires.new_ears c.requires.new_traces;
      none = c.requires.site.receivers.running.0;
      enough = omega (arith, long, length-map js (λ j. j.ear), c.args.ears.now.ok.0, c.requires.site.receivers.running.1);
    }

pub returns-clause-workers : goal.returns-clause-workers
returns-clause-workers g c =
    let site = c.args.site in let links = vec_len c.args.ears.now in let s = c.with_mouths.result in let qs = site.staffed.workers.orders.items in
    let js = c.staff_receivers.new.jobs.items in let ws = c.staff_workers.new.jobs.items in
    let a = (goal.at.returns-clause-workers g c).After-with_mouths in let made = as_made g a in let laid = as_laid g a in
    let orders = orders_too (λ w. w.order) bare_worker qs ws (subst (λ bs. AreOrdersOf (λ w. w.order) qs bs) (sym c.staff_workers.ensures.bare) c.requires.site.to_workers) in
    let long = ap length c.staff_workers.ensures.books in record {
      each = workers_ready site.plan links js ws s made laid g.B.Book.told qs c.args.books.now.items c.requires.plan
          c.requires.links.0 c.requires.links.1 orders c.staff_workers.ensures.books c.requires.new_books;
      none = c.requires.site.workers.running.0;
      enough = omega (arith, long, length-map ws (λ w. w.book), c.args.books.now.ok.0, c.requires.books, c.requires.site.workers.running.1);
    }

pub returns-clause-sender : goal.returns-clause-sender
returns-clause-sender g c =
    let site = c.args.site in let links = vec_len c.args.ears.now in let s = c.with_mouths.result in
    let js = c.staff_receivers.new.jobs.items in let ws = c.staff_workers.new.jobs.items in
    let a = (goal.at.returns-clause-sender g c).After-with_mouths in let made = as_made g a in let laid = as_laid g a in
    let jobs = c.push_reserved.ensures.items ∙ ap (λ l. l ++ s ∷ []) c.requires.site.sender.jobs.0 in
    let mouths = ap (λ v. length v.items) c.with_mouths.ensures.mouths in record {
      each = subst (λ ss. All IsReady ss) (sym jobs) (All-from_recursion IsReady (s ∷ []) (sender_ready site.plan links js ws s made laid (omega (arith, mouths, c.args.mouths.ok.0, c.requires.mouths)), tt));
      none = c.requires.site.sender.running.0;
      enough = (let long = ap length jobs in omega (arith, long, c.requires.site.sender.running.1));
    }
