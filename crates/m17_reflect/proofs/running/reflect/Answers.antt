use Rattle.std.proofs.Common.{◌≡◌, ℕ, ◌<◌, List, [], ◌∷◌, length, All, vec_len, sym, subst, refl, ap, ◌∙◌, arith}
use Rattle.std.proofs.lemmas.List.{length-map}
use Rattle.std.proofs.lemmas.List.Elements.{recursion_from_All}
use Rattle.m17_crew.specs.declared.order.Order.{Order}
use Rattle.m17_crew.specs.declared.order.Order.TheVariants.{Go, Stop, Quit}
use Rattle.m17_crew.specs.Laws.{Ran}
use Rattle.m17_ports.specs.Book.{BookTold}
use Rattle.m17_ports.specs.Ear.{EarTold}
use Rattle.m17_ports.specs.Mouth.{MouthTold}
use Rattle.m17_reflect.specs.Groups.{Staff, staff, WereTold}
use Rattle.m17_receiver.specs.ReceiverDid.{ReceiverDid}
use Rattle.m17_worker.specs.WorkerDid.{WorkerDid}
use Rattle.m17_sender.specs.declared.sender.Sender.{Sender}
use Rattle.m17_sender.specs.Ready.{IsReady}
use Rattle.m17_sender.specs.Sent.{SenderDid}
use Rattle.m17_plan.specs.declared.plan.Plan.{Plan}
use Rattle.m17_reflect.specs.Jobs.{AreJobs}
use Rattle.m17_plan.specs.Planned.{module_count}
use Rattle.m17_reflect.specs.Rooms.{HasRooms}
use Rattle.m17_reflect.specs.Site.{IsSite}
use Rattle.m17_reflect.specs.Parted.{IsParted}
use Rattle.m17_reflect.specs.declared.parted.Parted.{Parted}
use Rattle.m17_reflect.proofs.RunOver.{RunDevices, Done, Wired, can_part, done, long_r, long_w, can_gather, sender_stays, whole_laws, back_laws, headline_of}
use Rattle.m17_reflect.proofs.OrdersObeyed.{receiver_order, worker_order, receivers_stayed, workers_stayed, launched, one_job, told_came, told_long, sender_order}
use Rattle.m17_reflect.proofs.Whole.{Laws}
use Rattle.m17_reflect.proofs.running.reflect.Given.{Over}
use Rattle.m17_reflect.proofs.running.reflect.Goals.{After-launch-started}
use Rattle.m17_reflect.proofs.running.reflect.Goals as goal

module _ (g : Over) where
  -- what the devices of these kinds tell
  abbrev hears : g.row.E.Denot → EarTold g.row.E-Label.Denot
  hears = g.E.Ear.told

  abbrev tells : g.row.M.Denot → MouthTold g.row.M-Label.Denot
  tells = g.M.Mouth.told

  abbrev writes : g.row.B.Denot → BookTold g.row.B-Label.Denot
  writes = g.B.Book.told

module _ (g : Over) (c : After-launch-started g) where
  abbrev senders : Staff (Sender g.row.M.Denot)
  senders = staff c.staff-staffed.result.senders.jobs.items c.staff-staffed.result.senders.orders.items

  abbrev senders' : Staff (Sender g.row.M.Denot)
  senders' = staff c.launch-started.new.last.jobs.items c.launch-started.new.last.orders.items

  ran_s : (told : List Order) × WereTold (Ran (SenderDid (tells g))) told senders senders'
  ran_s =
      launched (SenderDid (tells g)) (Stop ∷ []) senders senders'
      c.launch-started.result c.launch-started.ensures.last

  -- the sender that came back
  returned : (t : Sender g.row.M.Denot) × (senders'.jobs ≡ t ∷ [])
  returned =
      one_job senders.jobs senders'.jobs c.staff-staffed.ensures.jobs.0 c.staff-staffed.ensures.jobs.1
      (told_long (Ran (SenderDid (tells g))) ran_s.0 senders senders' ran_s.1)

  abbrev cast : RunDevices g.row.E.Denot g.row.M.Denot g.row.B.Denot
  cast =
      let st = c.staff-staffed.result in let l = c.launch-started.new in record {
        r = staff st.receivers.jobs.items st.receivers.orders.items;
        r' = staff l.first.jobs.items l.first.orders.items;
        w = staff st.workers.jobs.items st.workers.orders.items;
        w' = staff l.second.jobs.items l.second.orders.items;
        v = senders;
        v' = senders';
        s = c.staff-staffed.ensures.jobs.0;
        t = returned.0;
      }

  its_ears : vec_len c.args.ears ≡ length cast.r.jobs
  its_ears = c.args.ears.ok.0 ∙ ap length (sym c.staff-staffed.ensures.ears) ∙ length-map cast.r.jobs (λ j. j.ear)

  some : 0 < length cast.r.jobs
  some = omega (arith, its_ears, c.requires.links.0)

  wired : Wired (hears g) (tells g) (writes g) c.args.plan.now cast
  wired =
      let st = c.staff-staffed.ensures in let (s, one, its_mouths, made) = st.jobs in let e = c.launch-started.ensures in record {
        one = one;
        two = returned.1;
        jobs = subst (λ (n : ℕ). AreJobs c.args.plan.now n cast.r.jobs cast.w.jobs s) its_ears
            (subst (λ (plan : Plan). AreJobs plan (vec_len c.args.ears) cast.r.jobs cast.w.jobs s) c.in-Ok.ensures.plan made);
        shaped = (recursion_from_All IsReady (s ∷ []) (subst (All IsReady) one st.sender.each)).0.shaped;
        new_r = st.to_receivers;
        new_w = st.to_workers;
        new_s = st.to_sender;
        ran_r = launched (ReceiverDid (hears g) (writes g)) [] cast.r cast.r' c.launch-started.result e.first;
        ran_w = launched (WorkerDid (writes g)) [] cast.w cast.w' c.launch-started.result e.second;
        ran_s = ran_s;
      }

  -- there is room for what comes back
  rooms : HasRooms (length cast.r.jobs) (module_count c.args.plan.now) c.args.plan.now.places c.staff-staffed.result.rooms
  rooms =
      let plan = c.args.plan.now in let made = c.in-Ok.site.staffed.rooms in
      subst (HasRooms (length cast.r.jobs) (module_count plan) plan.places) (sym c.staff-staffed.ensures.rooms)
      (subst (λ (n : ℕ). HasRooms n (module_count plan) plan.places made) (c.len-links.ensures ∙ its_ears)
      (subst (λ (q : Plan). HasRooms c.len-links.result (module_count q) q.places made) c.in-Ok.ensures.plan c.in-Ok.ensures.site.rooms))

  abbrev laws : Laws g.row.M-Label.Denot
  laws = whole_laws c.of_lanes.ensures c.of_links.ensures c.of_modules.ensures

  -- the jobs went, and were taken apart into this
  finished : (p : Parted g.row.E.Denot g.row.M.Denot g.row.B.Denot) → IsParted cast.r' cast.w' cast.v' c.staff-staffed.result.rooms.trails p → WereTold (ReceiverDid (hears g) (writes g)) (Go ∷ []) cast.r cast.r' → WereTold (WorkerDid (writes g)) (Go ∷ []) cast.w cast.w' → WereTold (SenderDid (tells g)) (Go ∷ Stop ∷ []) cast.v cast.v' → Done (hears g) (tells g) (writes g) c.args.plan.now cast c.staff-staffed.result.rooms.trails p
  finished p parted r w s =
      done laws.gone (hears g) (tells g) (writes g) c.args.plan.now cast c.staff-staffed.result.rooms.trails p wired (record { r = r; w = w; s = s }) parted

pub staff-staffed-requires-clause-books : goal.staff-staffed-requires-clause-books
staff-staffed-requires-clause-books g c κs within =
    c.requires.books ∙ ap module_count (sym c.in-Ok.ensures.plan)

pub staff-staffed-requires-clause-site : goal.staff-staffed-requires-clause-site
staff-staffed-requires-clause-site g c κs within = subst (λ (n : ℕ). IsSite n c.in-Ok.site) c.len-links.ensures c.in-Ok.ensures.site

pub part-parted-requires-clause-jobs : goal.part-parted-requires-clause-jobs
part-parted-requires-clause-jobs g c κs within =
    let a = (goal.at.part-parted-requires-clause-jobs g c).After-launch-started in
    can_part (hears g) (tells g) (writes g) c.args.plan.now (cast g a) (wired g a) c.of_lanes.ensures.orders

pub part-parted-requires-clause-room : goal.part-parted-requires-clause-room
part-parted-requires-clause-room g c κs within =
    let a = (goal.at.part-parted-requires-clause-room g c).After-launch-started in
    let plan = c.args.plan.now in let st = c.staff-staffed in let l = c.launch-started.new in
    let links : vec_len l.first.jobs ≡ length (cast g a).r.jobs = l.first.jobs.ok.0 ∙ long_r (hears g) (tells g) (writes g) plan (cast g a) (wired g a) in
    let modules : vec_len l.second.jobs ≡ module_count plan = l.second.jobs.ok.0 ∙ long_w (hears g) (tells g) (writes g) plan (cast g a) (wired g a) in
    let ears = its_ears g a in record {
      of_ears = (st.ensures.emptied.0, omega (arith, links, ears, st.ensures.same_room.0, c.args.ears.ok.1));
      of_traces = (st.ensures.emptied.1, omega (arith, links, ears, st.ensures.same_room.1, c.args.traces.ok.1, c.requires.traces));
      of_books = (st.ensures.emptied.2, omega (arith, modules, c.requires.books, st.ensures.same_room.2, c.args.books.ok.1));
      of_lanes = (
        plan.places,
        subst (λ (n : ℕ). HasRooms n (vec_len l.second.jobs) plan.places st.result.rooms) (sym links)
            (subst (λ (n : ℕ). HasRooms (length (cast g a).r.jobs) n plan.places st.result.rooms) (sym modules) (rooms g a)),
      );
    }

pub gather-requires : goal.gather-requires
gather-requires g c =
    let a = (goal.at.gather-requires g c).After-launch-started in let e = c.in-Ok-started.ensures in let p = c.part-parted in
    can_gather (hears g) (tells g) (writes g) c.args.plan.now (cast g a) c.staff-staffed.result.rooms.trails p.result
    (finished g a p.result p.ensures e.first e.second e.last)
    (back_laws c.of_lanes.ensures) (some g a) (rooms g a).trails

pub returns-in-Ok-started-clause-headline : goal.returns-in-Ok-started-clause-headline
returns-in-Ok-started-clause-headline g c =
    let a = (goal.at.returns-in-Ok-started-clause-headline g c).After-launch-started in let e = c.in-Ok-started.ensures in let p = c.part-parted in
    let st = c.staff-staffed.ensures in
    headline_of (hears g) (tells g) (writes g) c.args.plan.now (cast g a) c.staff-staffed.result.rooms.trails p.result
    (finished g a p.result p.ensures e.first e.second e.last) c.gather.result c.gather.ensures
    (laws g a) (back_laws c.of_lanes.ensures)
    (record { ears = c.args.ears.items; mouths = c.args.mouths.items; traces = c.args.traces.items; books = c.args.books.items })
    (record { ears = st.ears; traces = st.traces; books = st.books; mouths = ap (λ ms. ms.items) st.jobs.2 })
    (some g a)

pub returns-in-Err-clause-refused : goal.returns-in-Err-clause-refused
returns-in-Err-clause-refused g c =
    let a = (goal.at.returns-in-Err-clause-refused g c).After-launch-started in let e = c.in-Err.ensures in
    let gone = (laws g a).gone in
    let k = cast g a in let w = wired g a in let st = c.staff-staffed.ensures in
    let h = c.hand_back.ensures in let is = c.part-parted.ensures in let trails = c.part-parted.result.trails in
    let came_r = told_came receiver_order (Ran (ReceiverDid (hears g) (writes g))) (Quit ∷ []) k.r k.r' trails.to_receivers.items w.new_r e.first is.to_receivers in
    let came_w = told_came worker_order (Ran (WorkerDid (writes g))) (Quit ∷ []) k.w k.w' trails.to_workers.items w.new_w e.second is.to_workers in
    let came_s = told_came sender_order (Ran (SenderDid (tells g))) (Quit ∷ []) k.v k.v' trails.to_sender.items w.new_s e.last is.to_sender in (
      ap (λ es. es.items) h.ears ∙ is.links.ears ∙ receivers_stayed (hears g) (writes g) gone (λ j. j.ear) k.r.jobs k.r'.jobs k.r.orders (λ j q. refl) e.first.jobs came_r ∙ st.ears,
      ap (λ es. es.items) h.mouths ∙ ap (λ es. es.items) (is.voice k.t w.two).mouths ∙ ap (λ es. es.items) (sender_stays gone (tells g) k.v.jobs k.v'.jobs k.s k.t k.v.orders w.one w.two e.last.jobs came_s) ∙ ap (λ es. es.items) st.jobs.2,
      ap (λ es. es.items) h.traces ∙ is.links.traces ∙ receivers_stayed (hears g) (writes g) gone (λ j. j.trace) k.r.jobs k.r'.jobs k.r.orders (λ j q. refl) e.first.jobs came_r ∙ st.traces,
      ap (λ es. es.items) h.books ∙ is.modules.books ∙ workers_stayed (writes g) gone (λ w. w.book) k.w.jobs k.w'.jobs k.w.orders (λ j q. refl) e.second.jobs came_w ∙ st.books,
    )
