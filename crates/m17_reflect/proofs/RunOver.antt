-- All laws that a run rests on, from those of the crates below.
use Rattle.m17_reflect.proofs.EndsBack.{EndLaws, HaveGone, queues_at, notes_at, inboxes_back, queues_back, door_back, notes_back, seats_back, shells_ready, rows_ready, door_of, rows_made, rows_trails}
use Rattle.m17_reflect.specs.Known.{OfLanes, OfLinks, OfModules}
use Rattle.m17_reflect.proofs.Whole.{Laws, same_row_length, Course, run_of, shows, hands, IsOver, whole}
use Rattle.m17_reflect.proofs.OrdersObeyed.{OrderLaws, receiver_order, worker_order, all_worked, told_ones, told_came, told_long, sender_order, receiver_keeps, worker_keeps, sender_keeps, sender_went, OrdersCame, sender_stayed, map_twice, CanFinish, zip_less, as_ones}
use Rattle.std.proofs.Common.{◌≡◌, List, [], ◌∷◌, map, length, sym, subst, ◌∙◌, ℕ, ◌≤◌, Some, vec_len, refl, ap, arith, ◌+◌, ◌<◌, ◌++◌, vec_capacity, Bool, Option}
use Rattle.std.specs.List.{AllZip}
use Rattle.std.proofs.lemmas.List.{length-map}
use Rattle.m17_ports.specs.Book.{BookTold}
use Rattle.m17_ports.specs.Ear.{EarTold}
use Rattle.m17_ports.specs.Mouth.{MouthTold}
use Rattle.m17_crew.specs.declared.order.Order.{Order}
use Rattle.m17_crew.specs.declared.order.Order.TheVariants.{Go, Stop, Quit}
use Rattle.m17_crew.specs.Laws.{Ran}
use Rattle.m17_lane.specs.RowsLaws.{RowsPush}
use Rattle.m17_reflect.specs.Groups.{Staff, WereTold}
use Rattle.m17_receiver.specs.declared.receiver.Receiver.{Receiver}
use Rattle.m17_receiver.specs.ReceiverDid.{ReceiverDid}
use Rattle.m17_worker.specs.declared.worker.Worker.{Worker}
use Rattle.m17_worker.specs.WorkerDid.{WorkerDid}
use Rattle.m17_sender.specs.declared.sender.Sender.{Sender}
use Rattle.m17_sender.specs.Places.{cells_of, queues_of}
use Rattle.m17_sender.specs.Ready.{IsShaped}
use Rattle.m17_sender.specs.Sent.{SenderDid}
use Rattle.m17_reflect.specs.Ends.{IsNewLine}
use Rattle.m17_reflect.specs.Jobs.{AreJobs}
use Rattle.m17_plan.specs.Planned.{module_count}
use Rattle.m17_reflect.specs.declared.rooms.TrailRooms.{TrailRooms}
use Rattle.m17_plan.specs.declared.plan.Plan.{Plan}
use Rattle.m17_reflect.specs.declared.parted.Parted.{Parted}
use Rattle.m17_reflect.specs.Parted.{CanPart, IsOfSender, IsParted}
use Rattle.m17_reflect.proofs.ModulesWorked.{inbox_of, map_beside, Rows}
use Rattle.std.specs.Prelude.{slice_get, Vec, All, ◌||◌}
use Rattle.m17_control.specs.declared.item.Item.{Item}
use Rattle.m17_lane.specs.Ends.{PushEnd, PopEnd, AreOf, TrailEnd}
use Rattle.m17_lane.specs.declared.popper.Popper.{Popper}
use Rattle.m17_lane.specs.Rows.{as_new_popper}
use Rattle.m17_reflect.proofs.PlaceByPlace.{at_below, below_at, mapped_at}
use Rattle.std.proofs.lemmas.List.Elements.{recursion_from_All}
use Rattle.atomic_table.specs.Seated.{TableId}
use Rattle.m17_control.specs.declared.item.Direct.{Direct}
use Rattle.m17_lane.specs.Columns.{IsGrid}
use Rattle.m17_roll.specs.Closing.{AreAll, EndView}
use Rattle.m17_roll.specs.Seat.{AreNew, RollView, IsSeatOf}
use Rattle.m17_reflect.specs.Rooms.{HasTrailRooms, IsRoom}
use Rattle.m17_reflect.specs.Rows.{AreOfOnes, AreRowsOfTrails}
use Rattle.m17_reflect.specs.Gathered.{CanGather, Gathered, IsClosedOf}
use Rattle.m17_reflect.proofs.LinksHeard.{all_at, column_of}
use Rattle.m17_reflect.proofs.GivenBack.{worker_seat}
use Rattle.m17_reflect.proofs.RollSeats.{seat_of}
use Rattle.m17_control.specs.declared.event.Event.{Event}
use Rattle.m17_floor.specs.declared.verdict.Verdict.{Verdict}
use Rattle.m17_directory.specs.declared.verdict.LinkVerdict.{LinkVerdict}
use Rattle.m17_lane.specs.Trails as grid
use Rattle.m17_lane.specs.Trails.{IsTrailOf, AreTrailsOfOnes}
use Rattle.m17_reflect.specs.Rest.{SaysRest}
use Rattle.m17_reflect.specs.declared.returned.Returned.{Returned}
use Rattle.m17_reflect.specs.Headline.{Headline}
use Rattle.m17_reflect.specs.Run.{Run, Devices, Handed}
use Rattle.m17_reflect.specs.Views as views
use Rattle.m17_reflect.specs.Views.{Kinds}

pub whole_laws : {L : Type 0} → OfLanes → OfLinks → OfModules L → Laws L
whole_laws lanes links modules = record {
  gone = record { rows = lanes.orders; first = lanes.first };
  assembled = record {
    trail = record { rows = lanes.events; order = lanes.event_order; carries = links.carries; stops = links.stops };
    claimed = links.claimed;
    grow = lanes.items;
    placed = modules.placed;
  };
  places = record {
    settled = record { leaves = links.leaves; follow = links.follow; byes = modules.byes; free = lanes.free };
    stays = record { share = modules.share; between = modules.between; items = modules.follow };
    joins = links.joins;
    each = links.each;
  };
  mouths = record {
    noted = record {
      members = record {
        joins = links.joins_are;
        served = links.served;
        carried = record { follow = modules.follow; share = modules.share; less = modules.less };
      };
      order = modules.members;
    };
    peers = record { order = modules.peers; spelled = modules.spelled; door = links.door };
    doors = record { push = lanes.replies; rows = lanes.reply_rows; order = lanes.reply_order; replies = links.door };
    notes = lanes.notes;
    mouths = modules.mouths;
  };
  patient = record { all_claimed = links.all_claimed; askers = links.askers };
  claimed = lanes.once;
}

pub back_laws : OfLanes → EndLaws
back_laws lanes = record { grids = lanes.grids; grow = lanes.items; notes = lanes.notes }

-- The jobs of a run as the calls hand them on: wired, launched, told to go, joined, and taken apart.

-- The three groups of jobs before and after, the one sender, and the one that came back.
pub record RunDevices (E M B : Type 0) : Type 0 where
  pub r : Staff (Receiver E B)
  pub r' : Staff (Receiver E B)
  pub w : Staff (Worker B)
  pub w' : Staff (Worker B)
  pub v : Staff (Sender M)
  pub v' : Staff (Sender M)
  pub s : Sender M
  pub t : Sender M

-- They were wired by the plan and launched: each was told something, and went or only quit.
pub record Wired {E M B EL ML BL : Type 0} (hears : E → EarTold EL) (tells : M → MouthTold ML) (writes : B → BookTold BL) (plan : Plan) (k : RunDevices E M B) : Type 0 where
  pub one : k.v.jobs ≡ k.s ∷ []
  pub two : k.v'.jobs ≡ k.t ∷ []
  pub jobs : AreJobs plan (length k.r.jobs) k.r.jobs k.w.jobs k.s
  pub shaped : IsShaped k.s
  pub new_r : IsNewLine 2 k.r.orders (map receiver_order k.r.jobs)
  pub new_w : IsNewLine 2 k.w.orders (map worker_order k.w.jobs)
  pub new_s : IsNewLine 2 k.v.orders (map sender_order k.v.jobs)
  pub ran_r : (told : List Order) × WereTold (Ran (ReceiverDid hears writes)) told k.r k.r'
  pub ran_w : (told : List Order) × WereTold (Ran (WorkerDid writes)) told k.w k.w'
  pub ran_s : (told : List Order) × WereTold (Ran (SenderDid tells)) told k.v k.v'

-- They went.
pub record Went {E M B EL ML BL : Type 0} (hears : E → EarTold EL) (tells : M → MouthTold ML) (writes : B → BookTold BL) (k : RunDevices E M B) : Type 0 where
  pub r : WereTold (ReceiverDid hears writes) (Go ∷ []) k.r k.r'
  pub w : WereTold (WorkerDid writes) (Go ∷ []) k.w k.w'
  pub s : WereTold (SenderDid tells) (Go ∷ Stop ∷ []) k.v k.v'

module _ {E M B EL ML BL : Type 0} (hears : E → EarTold EL) (tells : M → MouthTold ML) (writes : B → BookTold BL) (plan : Plan) (k : RunDevices E M B) (h : Wired hears tells writes plan k) where
  -- as many came back
  pub long_r : length k.r'.jobs ≡ length k.r.jobs
  long_r = told_long (Ran (ReceiverDid hears writes)) h.ran_r.0 k.r k.r' h.ran_r.1

  pub long_w : length k.w'.jobs ≡ module_count plan
  long_w =
      told_long (Ran (WorkerDid writes)) h.ran_w.0 k.w k.w' h.ran_w.1
      ∙ sym (length-map k.w.jobs inbox_of) ∙ h.jobs.laid.inbox_count

  -- they can be taken apart
  pub can_part : RowsPush Order → CanPart k.r' k.w' k.v'
  can_part law = record {
    one = (k.t, h.two);
    to_receivers = told_ones law receiver_order (Ran (ReceiverDid hears writes)) (receiver_keeps hears writes) h.ran_r.0 k.r k.r' h.new_r h.ran_r.1;
    to_workers = told_ones law worker_order (Ran (WorkerDid writes)) (worker_keeps writes) h.ran_w.0 k.w k.w' h.new_w h.ran_w.1;
    to_sender = told_ones law sender_order (Ran (SenderDid tells)) (sender_keeps tells) h.ran_s.0 k.v k.v' h.new_s h.ran_s.1;
  }

-- They went, and were taken apart into this.
pub record Done {E M B EL ML BL : Type 0} (hears : E → EarTold EL) (tells : M → MouthTold ML) (writes : B → BookTold BL) (plan : Plan) (k : RunDevices E M B) (rooms : TrailRooms)
    (p : Parted E M B) : Type 0 where
  pub wired : Wired hears tells writes plan k
  pub went : Went hears tells writes k
  pub parted : IsParted k.r' k.w' k.v' rooms p
  pub of_sender : IsOfSender k.t p.voice
  pub to_receivers : OrdersCame receiver_order (Go ∷ []) k.r.jobs k.r'.jobs k.r.orders
  pub to_workers : OrdersCame worker_order (Go ∷ []) k.w.jobs k.w'.jobs k.w.orders
  pub to_sender : OrdersCame sender_order (Go ∷ Stop ∷ []) (k.s ∷ []) (k.t ∷ []) k.v.orders
  pub did : SenderDid tells k.s k.t
  pub gone : HaveGone hears writes k.r.jobs k.r'.jobs k.w.jobs k.w'.jobs k.s k.t
  pub same_cells : map length (cells_of k.t) ≡ map length (cells_of k.s)

module _ {E M B EL ML BL : Type 0} where
  pub done : (laws : OrderLaws) (hears : E → EarTold EL) (tells : M → MouthTold ML) (writes : B → BookTold BL) (plan : Plan) (k : RunDevices E M B) (rooms : TrailRooms) (p : Parted E M B) → Wired hears tells writes plan k → Went hears tells writes k → IsParted k.r' k.w' k.v' rooms p → Done hears tells writes plan k rooms p
  done laws hears tells writes plan k rooms p h g f =
      let came : OrdersCame sender_order (Go ∷ Stop ∷ []) (k.s ∷ []) (k.t ∷ []) k.v.orders =
      subst (λ ss. OrdersCame sender_order (Go ∷ Stop ∷ []) ss (k.t ∷ []) k.v.orders) h.one
      (subst (λ ts. OrdersCame sender_order (Go ∷ Stop ∷ []) k.v.jobs ts k.v.orders) h.two
      (told_came sender_order (SenderDid tells) (Go ∷ Stop ∷ []) k.v k.v' p.trails.to_sender.items h.new_s g.s f.to_sender)) in
      let did : SenderDid tells k.s k.t =
      (subst (λ ss. AllZip (SenderDid tells) ss (k.t ∷ [])) h.one
      (subst (λ ts. AllZip (SenderDid tells) k.v.jobs ts) h.two g.s.jobs)).0 in
      let workers = told_came worker_order (WorkerDid writes) (Go ∷ []) k.w k.w' p.trails.to_workers.items h.new_w g.w f.to_workers in
      let sent = sender_went laws tells (Stop ∷ []) k.s k.t k.v.orders came did in record {
        wired = h;
        went = g;
        parted = f;
        of_sender = f.voice k.t h.two;
        to_receivers = told_came receiver_order (ReceiverDid hears writes) (Go ∷ []) k.r k.r' p.trails.to_receivers.items h.new_r g.r f.to_receivers;
        to_workers = workers;
        to_sender = came;
        did = did;
        gone = record {
          received = g.r.jobs;
          worked = all_worked writes laws k.w.jobs k.w'.jobs k.w.orders g.w.jobs workers;
          acts = sent.acts;
          sent = sent.lanes;
        };
        same_cells = sent.same_cells;
      }

-- The rows of queues that came back, and the sender that only quit.

module _ {E M B EL ML BL : Type 0} (hears : E → EarTold EL) (tells : M → MouthTold ML) (writes : B → BookTold BL) (plan : Plan) (k : RunDevices E M B) (rooms : TrailRooms) (p : Parted E M B) (d : Done hears tells writes plan k rooms p) where
  -- a row for each module
  pub heads_long : length p.voice.queues.items ≡ module_count plan
  heads_long =
      let same = d.gone.sent.same_queues in
      ap (λ qs. length qs.items) d.of_sender.queues ∙ sym (length-map k.t.queues.items (λ row. row.items))
      ∙ sym (length-map (queues_of k.t) (map as_new_popper)) ∙ ap length same ∙ length-map (queues_of k.s) (map as_new_popper) ∙ d.wired.jobs.laid.queues.count.1

  -- and in each row a place for each
  pub head_fits : (m : ℕ) (q : Vec (Popper Item) _) → slice_get p.voice.queues.items m ≡ Some q → vec_len q ≤ plan.places
  head_fits m q at =
      let inside = below_at p.voice.queues.items m q at in
      let many = heads_long in
      let counts = d.wired.jobs.laid.queues.count in
      let at_t : slice_get k.t.queues.items m ≡ Some q = ap (λ qs. slice_get qs.items m) (sym d.of_sender.queues) ∙ at in
      let at_row = mapped_at (λ row. row.items) k.t.queues.items m q at_t in
      let (first, at_first) = at_below (queues_of k.s) m (omega (arith, many, counts.1)) in
      let (row, at_queue) = at_below (map queues_at k.w.jobs) m (omega (arith, many, counts.0)) in
      let long = same_row_length (queues_of k.s) (queues_of k.t) d.gone.sent.same_queues m first q.items at_first at_row
      ∙ (d.wired.jobs.laid.queues.each m row first at_queue at_first).1 in
      omega (arith, long, q.ok.0)

module _ {M L : Type 0} where
  -- the sender's mouths, where it only quit
  pub sender_stays : (laws : OrderLaws) (tells : M → MouthTold L) (ss ts : List (Sender M)) (s t : Sender M) (lines : List (PushEnd Order)) → ss ≡ s ∷ [] → ts ≡ t ∷ [] → AllZip (Ran (SenderDid tells)) ss ts → OrdersCame sender_order (Quit ∷ []) ss ts lines → t.mouths ≡ s.mouths
  sender_stays laws tells ss ts s t lines one two ran came =
      sender_stayed laws tells (λ (j : Sender M). j.mouths) s t lines (λ j q. refl)
      (subst (λ xs. OrdersCame sender_order (Quit ∷ []) xs (t ∷ []) lines) one (subst (λ ys. OrdersCame sender_order (Quit ∷ []) ss ys lines) two came))
      (subst (λ xs. AllZip (Ran (SenderDid tells)) xs (t ∷ [])) one (subst (λ ys. AllZip (Ran (SenderDid tells)) ss ys) two ran)).0

-- Jobs that went and were taken apart can be gathered: what their ends and seats are, and that there is room.

new_lengths : (rows : List (List (PopEnd Item))) → map length (map (map as_new_popper) rows) ≡ map length rows
new_lengths [] = refl
new_lengths (row ∷ rows) =
    ap (λ (n : ℕ). n ∷ map length (map (map as_new_popper) rows)) (length-map row as_new_popper)
    ∙ ap (λ (ns : List ℕ). length row ∷ ns) (new_lengths rows)

rows_same : (before after : List (List (PopEnd Item))) → map (map as_new_popper) after ≡ map (map as_new_popper) before → map length after ≡ map length before
rows_same before after e = sym (new_lengths after) ∙ ap (map length) e ∙ new_lengths before

module _ {E M B EL ML BL : Type 0} (hears : E → EarTold EL) (tells : M → MouthTold ML) (writes : B → BookTold BL) (plan : Plan) (k : RunDevices E M B) (rooms : TrailRooms) (p : Parted E M B) (d : Done hears tells writes plan k rooms p) where
  grid_ready : EndLaws → IsGrid (map (λ column. column.items) p.links.columns.items) p.modules.inboxes.items
  grid_ready laws =
      subst (IsGrid (map (λ column. column.items) p.links.columns.items)) (sym d.parted.modules.inboxes)
      (subst (λ cs. IsGrid cs (map inbox_of k.w'.jobs))
      (sym (ap (map (λ column. column.items)) d.parted.links.columns ∙ map_twice (λ (j : Receiver E B). j.inboxes) (λ column. column.items) k.r'.jobs))
      (inboxes_back hears writes laws k.r.jobs k.r'.jobs k.w.jobs k.w'.jobs k.s k.t (module_count plan) plan.places d.wired.jobs.laid d.gone))

  pub queues_ready : EndLaws → AllZip AreOfOnes (map (λ row. row.items) p.modules.queues.items) (map (λ row. row.items) p.voice.queues.items)
  queues_ready laws =
      subst (AllZip AreOfOnes (map (λ row. row.items) p.modules.queues.items)) (sym (ap (λ qs. map (λ row. row.items) qs.items) d.of_sender.queues))
      (subst (λ cs. AllZip AreOfOnes cs (queues_of k.t))
      (sym (ap (map (λ row. row.items)) d.parted.modules.queues ∙ map_twice (λ (w : Worker B). w.offers.queues) (λ row. row.items) k.w'.jobs))
      (zip_less CanFinish AreOfOnes as_ones (map queues_at k.w'.jobs) (queues_of k.t)
      (queues_back hears writes laws k.r.jobs k.r'.jobs k.w.jobs k.w'.jobs k.s k.t (module_count plan) plan.places d.wired.jobs.laid d.gone)))

  notes_ready : EndLaws → AreOfOnes p.voice.notes.items p.links.noted.items
  notes_ready laws =
      subst (AreOfOnes p.voice.notes.items) (sym d.parted.links.noted)
      (subst (λ qs. AreOfOnes qs (map notes_at k.r'.jobs)) (sym (ap (λ qs. qs.items) d.of_sender.notes))
      (as_ones k.t.notes.items (map notes_at k.r'.jobs)
      (notes_back hears writes laws k.r.jobs k.r'.jobs k.w.jobs k.w'.jobs k.s k.t (module_count plan) plan.places d.wired.jobs.laid d.gone)))

  door_ready : AreOf p.voice.door.lane p.links.doors.items × (length p.links.doors.items ≡ p.voice.door.producers)
  door_ready =
      let can = door_back hears writes k.r.jobs k.r'.jobs k.w.jobs k.w'.jobs k.s k.t (module_count plan) plan.places d.wired.jobs.laid d.gone in (
        subst (λ (door : PopEnd Direct). AreOf door.lane p.links.doors.items) (sym d.of_sender.door)
            (subst (AreOf k.t.door.lane) (sym d.parted.links.doors) can.of_one_lane),
        ap length d.parted.links.doors ∙ can.all ∙ ap (λ (door : PopEnd Direct). door.producers) (sym d.of_sender.door),
      )

  cells_ready : map (λ row. length row.items) p.voice.held.items ≡ map (λ row. length row.items) p.voice.queues.items
  cells_ready =
      let shaped = d.wired.shaped in
      let as_rows : map length (cells_of k.s) ≡ map length (queues_of k.s) =
      map_beside length length (cells_of k.s) (queues_of k.s)
      (length-map k.s.held.items (λ row. row.items) ∙ shaped.modules ∙ sym (length-map k.s.queues.items (λ row. row.items)))
      (λ m c q ec eq.
      all_at (λ row. length row ≡ k.s.places) (cells_of k.s) (recursion_from_All (λ row. length row ≡ k.s.places) (cells_of k.s) shaped.cells) m c ec
      ∙ sym (all_at (λ row. length row ≡ k.s.places) (queues_of k.s) (recursion_from_All (λ row. length row ≡ k.s.places) (queues_of k.s) shaped.queues) m q eq)) in
      ap (λ rows. map (λ row. length row.items) rows.items) d.of_sender.held
      ∙ sym (map_twice (λ row. row.items) length k.t.held.items)
      ∙ d.same_cells ∙ as_rows ∙ sym (rows_same (queues_of k.s) (queues_of k.t) d.gone.sent.same_queues)
      ∙ map_twice (λ row. row.items) length k.t.queues.items
      ∙ sym (ap (λ rows. map (λ row. length row.items) rows.items) d.of_sender.queues)

  pub seats_all : 0 < length k.r.jobs → (roll : TableId) × AreAll roll plan.places p.seats.items
  seats_all some =
      let count = sym (length-map k.w.jobs inbox_of) ∙ d.wired.jobs.laid.inbox_count in
      let (roll, all) = seats_back hears writes k.r.jobs k.r'.jobs k.w.jobs k.w'.jobs plan.places some
      (subst (λ (n : ℕ). AreNew plan.places (length k.r.jobs + n) (map seat_of k.r.jobs ++ map worker_seat k.w.jobs)) (sym count) d.wired.jobs.seats)
      d.gone.received d.gone.worked in
      (roll, subst (AreAll roll plan.places) (sym d.parted.seats) all)

  columns_long : vec_len p.links.columns ≡ length k.r.jobs
  columns_long =
      p.links.columns.ok.0 ∙ ap length d.parted.links.columns ∙ length-map k.r'.jobs (λ j. j.inboxes) ∙ long_r hears tells writes plan k d.wired

  noted_long : vec_len p.links.noted ≡ length k.r.jobs
  noted_long =
      p.links.noted.ok.0 ∙ ap length d.parted.links.noted ∙ length-map k.r'.jobs (λ j. j.notes) ∙ long_r hears tells writes plan k d.wired

  inboxes_long : vec_len p.modules.inboxes ≡ module_count plan
  inboxes_long =
      p.modules.inboxes.ok.0 ∙ ap length d.parted.modules.inboxes ∙ length-map k.w'.jobs (λ w. w.inbox) ∙ long_w hears tells writes plan k d.wired

  pub can_gather : EndLaws → 0 < length k.r.jobs → HasTrailRooms (length k.r.jobs) (module_count plan) plan.places rooms → CanGather p
  can_gather laws some room = record {
    inboxes = grid_ready laws;
    shells = subst (λ vs. All (λ shell. (shell.items ≡ []) × (vec_len p.links.columns ≤ vec_capacity shell)) vs.items) (sym d.parted.shells)
        (shells_ready (module_count plan) (length k.r.jobs) (vec_len p.links.columns) rooms.shells room.shells columns_long);
    shell_count = let same : vec_len p.trails.shells ≡ vec_len rooms.shells = ap (λ vs. vec_len vs) d.parted.shells in let many = room.shells.number in let long = inboxes_long in omega (arith, same, many, long);
    trails = subst (λ vs. IsRoom (vec_len p.modules.inboxes) vs) (sym d.parted.inboxes) (subst (λ (n : ℕ). IsRoom n rooms.inboxes) (sym inboxes_long) room.inboxes);
    queues = queues_ready laws;
    queue_rooms = subst (λ vs. AllZip (λ row space. (space.items ≡ []) × (vec_len row ≤ vec_capacity space)) p.voice.queues.items vs.items) (sym d.parted.queues)
        (rows_ready (module_count plan) plan.places p.voice.queues.items rooms.queues room.queues (heads_long hears tells writes plan k rooms p d) (head_fits hears tells writes plan k rooms p d));
    notes = notes_ready laws;
    note_room = subst (λ vs. IsRoom (vec_len p.links.noted) vs) (sym d.parted.notes) (subst (λ (n : ℕ). IsRoom n rooms.notes) (sym noted_long) room.notes);
    door = door_ready;
    cells = cells_ready;
    seats = let (roll, all) = seats_all some in (roll, plan.places, all);
  }

-- A run whose calls have returned, as its devices and what came back show it.

abbrev devices : {EL ML BL : Type 0} → List (EarTold EL) → List (MouthTold ML) → List (BookTold BL) → List (BookTold BL) → Devices EL ML BL
devices ears mouths traces books = record { ears = ears; mouths = mouths; traces = traces; books = books }

same_devices : {EL ML BL : Type 0} (a a' : List (EarTold EL)) (b b' : List (MouthTold ML)) (c c' d d' : List (BookTold BL)) → a ≡ a' → b ≡ b' → c ≡ c' → d ≡ d' → devices a b c d ≡ devices a' b' c' d'
same_devices a a' b b' c c' d d' e f g h =
    ap (λ x. devices x b c d) e ∙ ap (λ x. devices a' x c d) f ∙ ap (λ x. devices a' b' x d) g ∙ ap (λ x. devices a' b' c' x) h

abbrev handed : List (TrailEnd Event) → EndView → List (List (TrailEnd Item)) → List ℕ → List ℕ → List (List (Option LinkVerdict)) → List (List (Option Verdict)) → Bool → Bool → Handed
handed trails roll queues missed admitted link_tapes tapes lost failed = record {
  trails = trails;
  queues = queues;
  roll = roll;
  missed = missed;
  admitted = admitted;
  link_tapes = link_tapes;
  tapes = tapes;
  lost = lost;
  book_failed = failed;
}

same_handed : (ts : List (TrailEnd Event)) (roll : EndView) (a a' : List (List (TrailEnd Item))) (b b' c c' : List ℕ) (d d' : List (List (Option LinkVerdict))) (e e' : List (List (Option Verdict))) (f f' g g' : Bool) → a ≡ a' → b ≡ b' → c ≡ c' → d ≡ d' → e ≡ e' → f ≡ f' → g ≡ g' → handed ts roll a b c d e f g ≡ handed ts roll a' b' c' d' e' f' g'
same_handed ts roll a a' b b' c c' d d' e e' f f' g g' p q r s t u v =
    ap (λ x. handed ts roll x b c d e f g) p ∙ ap (λ x. handed ts roll a' x c d e f g) q
    ∙ ap (λ x. handed ts roll a' b' x d e f g) r ∙ ap (λ x. handed ts roll a' b' c' x e f g) s
    ∙ ap (λ x. handed ts roll a' b' c' d' x f g) t ∙ ap (λ x. handed ts roll a' b' c' d' e' x g) u
    ∙ ap (λ x. handed ts roll a' b' c' d' e' f' x) v

abbrev a_run : {EL ML BL : Type 0} → Plan → Devices EL ML BL → Devices EL ML BL → Handed → Run EL ML BL
a_run plan before after hand = record { plan = plan; before = before; after = after; handed = hand }

same_run : {EL ML BL : Type 0} (plan : Plan) (a a' b b' : Devices EL ML BL) (c c' : Handed) → a ≡ a' → b ≡ b' → c ≡ c' → a_run plan a b c ≡ a_run plan a' b' c'
same_run plan a a' b b' c c' e f g =
    ap (λ x. a_run plan x b c) e ∙ ap (λ x. a_run plan a' x c) f ∙ ap (λ x. a_run plan a' b' x) g

both_flags : (a a' b b' : Bool) → a ≡ a' → b ≡ b' → a || b ≡ a' || b'
both_flags a a' b b' e f = ap (λ (x : Bool). x || b) e ∙ ap (λ (x : Bool). a' || x) f

-- The jobs' devices are these.
pub record HaveDevices {E M B : Type 0} (k : RunDevices E M B) (d : Kinds E M B) : Type 0 where
  pub ears : map (λ (j : Receiver E B). j.ear) k.r.jobs ≡ d.ears
  pub traces : map (λ (j : Receiver E B). j.trace) k.r.jobs ≡ d.traces
  pub books : map (λ (w : Worker B). w.book) k.w.jobs ≡ d.books
  pub mouths : k.s.mouths.items ≡ d.mouths

-- The run, by its jobs.
abbrev pub course : {E M B EL ML BL : Type 0} → (E → EarTold EL) → (M → MouthTold ML) → (B → BookTold BL) → Plan → RunDevices E M B → Returned E M B → List Rows → Course E M B EL ML BL
course hears tells writes plan k r rows = record {
  hears = hears;
  tells = tells;
  writes = writes;
  plan = plan;
  before = record { receivers = k.r.jobs; workers = k.w.jobs; mouths = k.s.mouths.items };
  after = record { receivers = k.r'.jobs; workers = k.w'.jobs; mouths = r.mouths.items };
  made = record { trails = r.trails.items; rows = rows; roll = r.roll };
}

-- as many words as each seat's roll has places
words_long : (roll : TableId) (places n : ℕ) (seats : List RollView) → AreAll roll places seats → All (λ s. s.places ≡ n) seats → n ≡ places
words_long roll places n [] all h = absurd (let some = all.some_seat in omega arith)
words_long roll places n (x ∷ seats) all h =
    sym (recursion_from_All (λ (s : RollView). s.places ≡ n) (x ∷ seats) h).0
    ∙ (recursion_from_All (IsSeatOf roll (length (x ∷ seats)) places) (x ∷ seats) all.each).0.2

module _ {E M B EL ML BL : Type 0} (hears : E → EarTold EL) (tells : M → MouthTold ML) (writes : B → BookTold BL) (plan : Plan) (k : RunDevices E M B) (rooms : TrailRooms) (p : Parted E M B) (d : Done hears tells writes plan k rooms p) (r : Returned E M B) (g : Gathered tells p r) where
  -- the run as it shows itself
  shown : (kinds : Kinds E M B) → HaveDevices k kinds → length g.ended.rows ≡ length (queues_of k.t) → run_of (course hears tells writes plan k r (rows_made (queues_of k.t) g.ended.rows)) ≡ views.run_of hears tells writes plan kinds r
  shown kinds of long =
      let w = d.parted.links in let v = d.parted.modules in
      let heads = queues_of k.t in
      same_run plan (shows hears tells writes (record { receivers = k.r.jobs; workers = k.w.jobs; mouths = k.s.mouths.items })) (views.devices_of hears tells writes kinds)
      (shows hears tells writes (record { receivers = k.r'.jobs; workers = k.w'.jobs; mouths = r.mouths.items })) (views.devices_of hears tells writes (views.kinds_back r))
      (hands (record { receivers = k.r'.jobs; workers = k.w'.jobs; mouths = r.mouths.items }) (record { trails = r.trails.items; rows = rows_made heads g.ended.rows; roll = r.roll })) (views.handed_of r)
      (same_devices _ _ _ _ _ _ _ _
      (sym (map_twice (λ (j : Receiver E B). j.ear) hears k.r.jobs) ∙ ap (map hears) of.ears)
      (ap (map tells) of.mouths)
      (sym (map_twice (λ (j : Receiver E B). j.trace) writes k.r.jobs) ∙ ap (map writes) of.traces)
      (sym (map_twice (λ (w : Worker B). w.book) writes k.w.jobs) ∙ ap (map writes) of.books))
      (same_devices _ _ _ _ _ _ _ _
      (sym (map_twice (λ (j : Receiver E B). j.ear) hears k.r'.jobs) ∙ ap (map hears) (sym (ap (λ es. es.items) g.devices.0 ∙ w.ears)))
      refl
      (sym (map_twice (λ (j : Receiver E B). j.trace) writes k.r'.jobs) ∙ ap (map writes) (sym (ap (λ es. es.items) g.devices.1 ∙ w.traces)))
      (sym (map_twice (λ (w : Worker B). w.book) writes k.w'.jobs) ∙ ap (map writes) (sym (ap (λ es. es.items) g.devices.2 ∙ v.books))))
      (same_handed r.trails.items r.roll _ _ _ _ _ _ _ _ _ _ _ _ _ _
      (rows_trails heads g.ended.rows long ∙ sym g.ended.drained_rows)
      (sym (ap (λ es. es.items) g.counts.0 ∙ v.missed))
      (sym (ap (λ es. es.items) g.counts.1 ∙ v.admitted))
      (sym (map_twice (λ (j : Receiver E B). j.tape) (λ tape. tape.items) k.r'.jobs) ∙ ap (map (λ tape. tape.items)) (sym (ap (λ es. es.items) g.tapes.0 ∙ w.tapes)))
      (sym (ap (λ es. es.items) g.tapes.1 ∙ v.tapes))
      (sym (g.flags.0 ∙ w.lost))
      (sym (g.flags.1 ∙ both_flags p.links.failed _ p.modules.failed _ w.failed v.failed)))

  -- the run is over
  over : (roll : TableId) → AreAll roll plan.places p.seats.items → AllZip AreOfOnes (map (λ row. row.items) p.modules.queues.items) (map (λ row. row.items) p.voice.queues.items) → IsOver (course hears tells writes plan k r (rows_made (queues_of k.t) g.ended.rows)) k.s k.t
  over roll all rows =
      let w = d.parted.links in let v = d.parted.modules in let o = d.of_sender in let e = g.ended in
      let heads : map (λ row. row.items) p.voice.queues.items ≡ queues_of k.t = ap (λ qs. map (λ row. row.items) qs.items) o.queues in
      let queues : map (λ row. row.items) p.modules.queues.items ≡ map queues_at k.w'.jobs = ap (map (λ row. row.items)) v.queues ∙ map_twice (λ (w : Worker B). w.offers.queues) (λ row. row.items) k.w'.jobs in
      let columns : map (λ column. column.items) p.links.columns.items ≡ map column_of k.r'.jobs = ap (map (λ column. column.items)) w.columns ∙ map_twice (λ (j : Receiver E B). j.inboxes) (λ column. column.items) k.r'.jobs in record {
        jobs = d.wired.jobs;
        received = d.went.r.jobs;
        worked = d.went.w.jobs;
        sent = d.did;
        shaped = d.wired.shaped;
        mouths = refl;
        receiver_lines = k.r.orders;
        to_receivers = d.to_receivers;
        worker_lines = k.w.orders;
        to_workers = d.to_workers;
        sender_lines = k.v.orders;
        to_sender = d.to_sender;
        trails = subst (λ ps. grid.AreTrails (map column_of k.r'.jobs) ps r.trails.items) v.inboxes
            (subst (λ cs. grid.AreTrails cs p.modules.inboxes.items r.trails.items) columns g.trails);
        row_ends = subst (AllZip AreOfOnes (map queues_at k.w'.jobs)) heads (subst (λ cs. AllZip AreOfOnes cs (map (λ row. row.items) p.voice.queues.items)) queues rows);
        rows = e.rows;
        row_trails = subst (λ hs. AreRowsOfTrails (map queues_at k.w'.jobs) hs e.rows) heads
            (subst (λ cs. AreRowsOfTrails cs (map (λ row. row.items) p.voice.queues.items) e.rows) queues e.row_trails);
        made_rows = refl;
        door = e.door;
        door_trail = subst (λ (door : PopEnd Direct). IsTrailOf (map door_of k.r'.jobs) door e.door) o.door
            (subst (λ ds. IsTrailOf ds p.voice.door e.door) w.doors e.door_trail);
        notes = e.notes;
        note_trails = subst (λ qs. AreTrailsOfOnes qs (map notes_at k.r'.jobs) e.notes) (ap (λ qs. qs.items) o.notes)
            (subst (λ ps. AreTrailsOfOnes p.voice.notes.items ps e.notes) w.noted e.note_trails);
        rest = subst (λ name. SaysRest tells name (record { cells = cells_of k.t; queues = e.rows; door = e.door }) k.t.mouths.items r.mouths.items) o.name
            (subst (λ ms. SaysRest tells p.voice.name (record { cells = cells_of k.t; queues = e.rows; door = e.door }) ms r.mouths.items) (ap (λ ms. ms.items) o.mouths)
            (subst (λ cs. SaysRest tells p.voice.name (record { cells = cs; queues = e.rows; door = e.door }) p.voice.mouths.items r.mouths.items) (ap (λ cs. map (λ row. row.items) cs.items) o.held) e.rest));
        roll = subst (λ ss. IsClosedOf ss r.roll) d.parted.seats g.roll;
        places = words_long roll plan.places (length r.roll.words) p.seats.items all g.places;
      }

  -- The headline, of the run as it shows itself.
  pub headline_of : Laws ML → EndLaws → (kinds : Kinds E M B) → HaveDevices k kinds → 0 < length k.r.jobs → Headline (views.run_of hears tells writes plan kinds r)
  headline_of laws ends kinds of some =
      let (roll, all) = seats_all hears tells writes plan k rooms p d some in
      let heads : map (λ row. row.items) p.voice.queues.items ≡ queues_of k.t = ap (λ qs. map (λ row. row.items) qs.items) d.of_sender.queues in
      let long : length g.ended.rows ≡ length (queues_of k.t) = g.ended.row_trails.count ∙ ap length heads in
      subst Headline (shown kinds of long)
      (whole laws (course hears tells writes plan k r (rows_made (queues_of k.t) g.ended.rows)) k.s k.t
      (over roll all (queues_ready hears tells writes plan k rooms p d ends)))
