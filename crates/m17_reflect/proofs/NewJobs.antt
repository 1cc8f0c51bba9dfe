-- The ends that jobs have are those that the lanes were laid with; and jobs have the same ends as without their devices.
use Rattle.std.proofs.Common.{◌≡◌, ℕ, ◌+◌, List, [], ◌++◌, map, length, All, Option, None, sym, subst, refl, ap, ◌∙◌, length-append, arith, ◌<◌, ◌≤◌, Some}
use Rattle.std.proofs.lemmas.List.{length-replicate, nil_from_length, length-map}
use Rattle.std.proofs.lemmas.Simd.{map-map}
use Rattle.m17_values.specs.declared.member.Member.{Member}
use Rattle.m17_control.specs.declared.event.Event.{Event}
use Rattle.m17_control.specs.declared.item.Item.{Item}
use Rattle.m17_control.specs.declared.item.Direct.{Direct}
use Rattle.m17_crew.specs.declared.order.Order.{Order}
use Rattle.m17_lane.specs.Ends.{PushEnd, PopEnd}
use Rattle.m17_roll.specs.Seat.{RollView, AreNew, new_seat}
use Rattle.m17_receiver.specs.declared.receiver.Receiver.{Receiver}
use Rattle.m17_worker.specs.declared.worker.Worker.{Worker}
use Rattle.m17_sender.specs.declared.sender.Sender.{Sender}
use Rattle.m17_reflect.specs.declared.lanes.Lanes.{Lanes}
use Rattle.m17_plan.specs.declared.plan.Plan.{Plan}
use Rattle.m17_reflect.specs.Bare.{bare, bare_worker, IsSameBut, IsNewSender, IsNewReceiver, IsNewWorker}
use Rattle.m17_reflect.specs.Ends.{Ends, IsNewLine, AreLaid, ends_of}
use Rattle.m17_reflect.specs.Lanes.{ends_in}
use Rattle.m17_plan.specs.Planned.{module_count, IsPlan, module_setup, letter_of}
use Rattle.m17_reflect.specs.Site.{AreBare, AreOrdersOf}
use Rattle.m17_reflect.specs.Taken.{AreFromLinks, AreFromModules, HasSenderEnds}
use Rattle.std.specs.Prelude.{slice_get}
use Rattle.std.proofs.lemmas.List.Elements.{All-from_recursion, recursion_from_All}
use Rattle.m17_lists.proofs.Places.{mapped_stands_there, number_stands_there}
use Rattle.m17_lists.proofs.Pairs.{holds_of_each_by_place}
use Rattle.m17_control.specs.Modules.{letters_of}
use Rattle.m17_module.specs.Items as module_items
use Rattle.m17_ports.specs.Book.{BookTold}
use Rattle.m17_ports.specs.Ear.{EarTold}
use Rattle.m17_ports.specs.Told.{StartsEmpty}
use Rattle.m17_lane.specs.Rows.{IsNewPopRow, IsNewPopper, IsNewPusher}
use Rattle.m17_receiver.specs.Ready as receivers
use Rattle.m17_worker.specs.Offers.{IsQueue}
use Rattle.m17_worker.specs.Ready as workers
use Rattle.m17_sender.specs.Places.{cells_of, queues_of}
use Rattle.m17_sender.specs.Ready as senders
use Rattle.m17_reflect.specs.Jobs.{IsReceiverOf, IsWorkerOf, AreJobs}
use Rattle.m17_reflect.proofs.PlaceByPlace.{all_at, each_at}
use Rattle.m17_reflect.proofs.NewLanes.{back_same, front_same, line_popper, line_pusher, new_column, new_door, new_heads, new_inbox, new_queues}

abbrev all_ends : List (List (PushEnd Event)) → List (PopEnd Event) → List (List (PushEnd Item)) → List (List (PopEnd Item)) → List (PushEnd Direct) → PopEnd Direct → List (PushEnd Member) → List (PopEnd Member) → Ends
all_ends columns inboxes queues heads doors door notes noted = record {
  columns = columns;
  inboxes = inboxes;
  queues = queues;
  heads = heads;
  doors = doors;
  door = door;
  notes = notes;
  noted = noted;
}

same_ends : (columns columns' : List (List (PushEnd Event))) (inboxes inboxes' : List (PopEnd Event)) (queues queues' : List (List (PushEnd Item))) (heads heads' : List (List (PopEnd Item))) (doors doors' : List (PushEnd Direct)) (door door' : PopEnd Direct) (notes notes' : List (PushEnd Member)) (noted noted' : List (PopEnd Member)) → columns ≡ columns' → inboxes ≡ inboxes' → queues ≡ queues' → heads ≡ heads' → doors ≡ doors' → door ≡ door' → notes ≡ notes' → noted ≡ noted' → all_ends columns inboxes queues heads doors door notes noted ≡ all_ends columns' inboxes' queues' heads' doors' door' notes' noted'
same_ends columns columns' inboxes inboxes' queues queues' heads heads' doors doors' door door' notes notes' noted noted' a b c d e f g h =
    ap (λ x. all_ends x inboxes queues heads doors door notes noted) a
    ∙ ap (λ x. all_ends columns' x queues heads doors door notes noted) b
    ∙ ap (λ x. all_ends columns' inboxes' x heads doors door notes noted) c
    ∙ ap (λ x. all_ends columns' inboxes' queues' x doors door notes noted) d
    ∙ ap (λ x. all_ends columns' inboxes' queues' heads' x door notes noted) e
    ∙ ap (λ x. all_ends columns' inboxes' queues' heads' doors' x notes noted) f
    ∙ ap (λ x. all_ends columns' inboxes' queues' heads' doors' door' x noted) g
    ∙ ap (λ x. all_ends columns' inboxes' queues' heads' doors' door' notes' x) h

module _ {E M B : Type 0} where
  -- jobs that have the ends of these lanes
  pub laid_of : (links modules places : ℕ) (lanes : Lanes) (js : List (Receiver E B)) (ws : List (Worker B)) (s : Sender M) → AreLaid links modules places (ends_in lanes) → AreFromLinks lanes.links js → AreFromModules lanes.modules ws → HasSenderEnds lanes.sender s → AreLaid links modules places (ends_of (map bare js) (map bare_worker ws) s)
  laid_of links modules places lanes js ws s laid of_links of_modules of_sender =
      subst (AreLaid links modules places)
      (same_ends (map (λ column. column.items) lanes.links.inboxes.items) (map (λ j. j.inboxes.items) (map bare js))
      lanes.modules.inboxes.items (map (λ w. w.inbox) (map bare_worker ws))
      (map (λ row. row.items) lanes.modules.queues.items) (map (λ w. w.offers.queues.items) (map bare_worker ws))
      (map (λ row. row.items) lanes.sender.queues.items) (map (λ row. row.items) s.queues.items)
      lanes.links.doors.items (map (λ j. j.door) (map bare js))
      lanes.sender.door s.door lanes.sender.notes.items s.notes.items
      lanes.links.notes.items (map (λ j. j.notes) (map bare js))
      (ap (map (λ column. column.items)) of_links.inboxes ∙ map-map (λ column. column.items) (λ (j : Receiver E B). j.inboxes) js ∙ sym (map-map (λ j. j.inboxes.items) bare js))
      (of_modules.inboxes ∙ sym (map-map (λ w. w.inbox) bare_worker ws))
      (ap (map (λ row. row.items)) of_modules.queues ∙ map-map (λ row. row.items) (λ (w : Worker B). w.offers.queues) ws ∙ sym (map-map (λ w. w.offers.queues.items) bare_worker ws))
      (sym (ap (λ queues. map (λ row. row.items) queues.items) of_sender.queues))
      (of_links.doors ∙ sym (map-map (λ j. j.door) bare js))
      (sym of_sender.door)
      (sym (ap (λ notes. notes.items) of_sender.notes))
      (of_links.notes ∙ sym (map-map (λ j. j.notes) bare js)))
      laid

  -- jobs with their devices have the same ends
  pub laid_too : (links modules places : ℕ) (js : List (Receiver E B)) (ws : List (Worker B)) (s : Sender M) → AreLaid links modules places (ends_of (map bare js) (map bare_worker ws) s) → AreLaid links modules places (ends_of js ws s)
  laid_too links modules places js ws s laid =
      subst (AreLaid links modules places)
      (same_ends (map (λ j. j.inboxes.items) (map bare js)) (map (λ j. j.inboxes.items) js)
      (map (λ w. w.inbox) (map bare_worker ws)) (map (λ w. w.inbox) ws)
      (map (λ w. w.offers.queues.items) (map bare_worker ws)) (map (λ w. w.offers.queues.items) ws)
      (map (λ row. row.items) s.queues.items) (map (λ row. row.items) s.queues.items)
      (map (λ j. j.door) (map bare js)) (map (λ j. j.door) js)
      s.door s.door s.notes.items s.notes.items
      (map (λ j. j.notes) (map bare js)) (map (λ j. j.notes) js)
      (map-map (λ j. j.inboxes.items) bare js)
      (map-map (λ w. w.inbox) bare_worker ws)
      (map-map (λ w. w.offers.queues.items) bare_worker ws)
      refl
      (map-map (λ j. j.door) bare js)
      refl refl
      (map-map (λ j. j.notes) bare js))
      laid

module _ {E B : Type 0} where
  pub same_seats : (js : List (Receiver E B)) (ws : List (Worker B)) → map (λ j. j.seat) (map bare js) ++ map (λ w. w.seat) (map bare_worker ws) ≡ map (λ j. j.seat) js ++ map (λ w. w.seat) ws
  same_seats js ws =
      ap (λ (l : List RollView). l ++ map (λ w. w.seat) (map bare_worker ws)) (map-map (λ j. j.seat) bare js)
      ∙ ap (λ (l : List RollView). map (λ (j : Receiver E B). j.seat) js ++ l) (map-map (λ w. w.seat) bare_worker ws)

module _ {A C : Type 0} where
  -- orders of jobs without their devices are those of the jobs, and the other way round
  pub orders_too : (g : C → PopEnd Order) (h : A → C) (qs : List (PushEnd Order)) (xs : List A) → AreOrdersOf g qs (map h xs) → AreOrdersOf (λ a. g (h a)) qs xs
  orders_too g h qs xs line = subst (IsNewLine 2 qs) (map-map g h xs) line

  pub orders_bare : (g : C → PopEnd Order) (h : A → C) (qs : List (PushEnd Order)) (xs : List A) → AreOrdersOf (λ a. g (h a)) qs xs → AreOrdersOf g qs (map h xs)
  orders_bare g h qs xs line = subst (IsNewLine 2 qs) (sym (map-map g h xs)) line

module _ {M N : Type 0} where
  -- the sender with its mouths
  pub laid_with : (links modules places : ℕ) (js : List (Receiver (Unit {0}) (Unit {0}))) (ws : List (Worker (Unit {0}))) (s : Sender M) (t : Sender N) → IsSameBut s t → AreLaid links modules places (ends_of js ws s) → AreLaid links modules places (ends_of js ws t)
  laid_with links modules places js ws s t same laid =
      subst (AreLaid links modules places)
      (same_ends (map (λ j. j.inboxes.items) js) (map (λ j. j.inboxes.items) js)
      (map (λ w. w.inbox) ws) (map (λ w. w.inbox) ws)
      (map (λ w. w.offers.queues.items) ws) (map (λ w. w.offers.queues.items) ws)
      (map (λ row. row.items) s.queues.items) (map (λ row. row.items) t.queues.items)
      (map (λ j. j.door) js) (map (λ j. j.door) js)
      s.door t.door s.notes.items t.notes.items
      (map (λ j. j.notes) js) (map (λ j. j.notes) js)
      refl refl refl
      (sym (ap (λ queues. map (λ row. row.items) queues.items) same.queues))
      refl (sym same.door)
      (sym (ap (λ notes. notes.items) same.notes))
      refl)
      laid

  pub sender_with : (plan : Plan) (s : Sender M) (t : Sender N) → IsSameBut s t → IsNewSender plan s → IsNewSender plan t
  sender_with plan s t same new = record {
    of = record { name = same.name ∙ new.of.name; places = same.places ∙ new.of.places };
    rows = ap (λ held. length held.items) same.held ∙ new.rows;
    cells = subst (λ (cells : List (List (Option Item))). All (λ row. length row ≡ plan.places) cells) (sym (ap (λ held. map (λ row. row.items) held.items) same.held)) new.cells;
    none = subst (λ (cells : List (List (Option Item))). All (λ row. All (λ cell. cell ≡ None) row) cells) (sym (ap (λ held. map (λ row. row.items) held.items) same.held)) new.none;
  }

  pub bare_with : (plan : Plan) (links : ℕ) (js : List (Receiver (Unit {0}) (Unit {0}))) (ws : List (Worker (Unit {0}))) (s : Sender M) (t : Sender N) → IsSameBut s t → AreBare plan links js ws s → AreBare plan links js ws t
  bare_with plan links js ws s t same made = record {
    laid = laid_with links (module_count plan) plan.places js ws s t same made.laid;
    receivers = made.receivers;
    receiver_count = made.receiver_count;
    workers = made.workers;
    letters = made.letters;
    sender = sender_with plan s t same made.sender;
    seats = made.seats;
  }

-- the jobs with their devices are those that were made without
module _ {E B F C M N : Type 0} where
  pub staffed : (plan : Plan) (links : ℕ) (ks : List (Receiver F C)) (vs : List (Worker C)) (s : Sender M) (js : List (Receiver E B)) (ws : List (Worker B)) (t : Sender N) → map bare js ≡ map bare ks → map bare_worker ws ≡ map bare_worker vs → IsSameBut s t → AreBare plan links (map bare ks) (map bare_worker vs) s → AreBare plan links (map bare js) (map bare_worker ws) t
  staffed plan links ks vs s js ws t are_js are_ws same made =
      bare_with plan links (map bare js) (map bare_worker ws) s t same
      (subst (λ (bs : List (Receiver (Unit {0}) (Unit {0}))). AreBare plan links bs (map bare_worker ws) s) (sym are_js)
      (subst (λ (us : List (Worker (Unit {0}))). AreBare plan links (map bare ks) us s) (sym are_ws) made))

-- all seats of a roll have come to jobs
pub all_seats : (places n : ℕ) (all mid left xs ys : List RollView) → AreNew places n all → all ≡ mid ++ ys → mid ≡ left ++ xs → length xs + length ys ≡ n → AreNew places n (xs ++ ys)
all_seats places n all mid left xs ys new e h count =
    let long_all = ap length e ∙ length-append mid ys in
    let long_mid = ap length h ∙ length-append left xs in
    let long = ap length new.1 ∙ length-replicate n (new_seat new.0 n places) in
    let none : left ≡ [] = nil_from_length left (omega (arith, long_all, long_mid, long, count)) in
    (new.0, sym (e ∙ ap (λ (l : List RollView). l ++ ys) (h ∙ ap (λ (l : List RollView). l ++ xs) none)) ∙ new.1)

-- Jobs with new devices can be started.

module _ {E M B : Type 0} (plan : Plan) (links : ℕ) (js : List (Receiver E B)) (ws : List (Worker B)) (s : Sender M) (made : AreBare plan links (map bare js) (map bare_worker ws) s) (laid : AreLaid links (module_count plan) plan.places (ends_of js ws s)) where
  of_link : (i : ℕ) (j : Receiver E B) → slice_get js i ≡ Some j → IsNewReceiver plan i (bare j)
  of_link i j at = each_at (IsNewReceiver plan) 0 i (map bare js) made.receivers i (bare j) (omega arith) (mapped_stands_there bare js i j at)

  of_module : (m : ℕ) (w : Worker B) → slice_get ws m ≡ Some w → IsNewWorker plan links (bare_worker w)
  of_module m w at = all_at (IsNewWorker plan links) (map bare_worker ws) (recursion_from_All (IsNewWorker plan links) (map bare_worker ws) made.workers) m (bare_worker w) (mapped_stands_there bare_worker ws m w at)

  of_letter : (m : ℕ) (w : Worker B) → slice_get ws m ≡ Some w → w.letter ≡ letter_of plan m
  of_letter m w at =
      sym (number_stands_there (letters_of plan.modules) m w.letter
      (sym (ap (λ (l : List ℕ). slice_get l m) made.letters) ∙ mapped_stands_there (λ w. w.letter) (map bare_worker ws) m (bare_worker w) (mapped_stands_there bare_worker ws m w at)))

  receiver_seat : (i : ℕ) (j : Receiver E B) → slice_get js i ≡ Some j → new_seat made.seats.0 (links + module_count plan) plan.places ≡ j.seat
  receiver_seat i j at =
      front_same (map (λ j. j.seat) js) (map (λ w. w.seat) ws) (links + module_count plan) (new_seat made.seats.0 (links + module_count plan) plan.places)
      (sym (same_seats js ws) ∙ made.seats.1) i j.seat (mapped_stands_there (λ (j : Receiver E B). j.seat) js i j at)

  worker_seat : (m : ℕ) (w : Worker B) → slice_get ws m ≡ Some w → new_seat made.seats.0 (links + module_count plan) plan.places ≡ w.seat
  worker_seat m w at =
      back_same (map (λ j. j.seat) js) (map (λ w. w.seat) ws) (links + module_count plan) (new_seat made.seats.0 (links + module_count plan) plan.places)
      (sym (same_seats js ws) ∙ made.seats.1) m w.seat (mapped_stands_there (λ (w : Worker B). w.seat) ws m w at)

  -- the jobs are those of the plan
  receiver_of : (i : ℕ) (j : Receiver E B) → slice_get js i ≡ Some j → IsReceiverOf plan i j
  receiver_of i j at = let h = (of_link i j at).of in record {
    link = h.link;
    setup = h.setup;
    patient = h.patient;
    cells = h.cells;
    none = h.none;
  }

  worker_of : (m : ℕ) (w : Worker B) → slice_get ws m ≡ Some w → IsWorkerOf plan links m w
  worker_of m w at =
      let h = of_module m w at in
      let row = new_queues 64 (module_count plan) plan.places (map (λ w. w.offers.queues.items) ws) (ends_of js ws s).heads laid.queues m w.offers.queues.items (mapped_stands_there (λ (w : Worker B). w.offers.queues.items) ws m w at) in record {
        letter = of_letter m w at;
        links_are = h.links_are;
        limit = h.limit;
        setup = h.setup ∙ ap (module_setup plan) (of_letter m w at);
        patient = h.patient;
        cells = h.cells;
        queues = All-from_recursion IsNewPusher w.offers.queues.items (holds_of_each_by_place IsNewPusher w.offers.queues.items (λ i q at_q. (line_pusher 64 w.offers.queues.items row.0 row.1 i q at_q).0.0));
        count = row.1.count ∙ row.2;
        missed = h.missed;
      }

  pub jobs_are : AreJobs plan links js ws s
  jobs_are = record {
    laid = laid;
    receivers = receiver_of;
    workers = worker_of;
    sender = made.sender.of;
    seats = (made.seats.0, sym (same_seats js ws) ∙ made.seats.1);
  }

  -- a receiver whose devices are new
  receiver_ready : {L K : Type 0} → (hears : E → EarTold L) (writes : B → BookTold K) (qs : List (PushEnd Order)) → IsPlan plan → AreOrdersOf (λ (j : Receiver E B). j.order) qs js → (i : ℕ) (j : Receiver E B) → slice_get js i ≡ Some j → StartsEmpty (hears j.ear).heard → StartsEmpty (writes j.trace).written → receivers.IsReady hears writes j
  receiver_ready hears writes qs plans orders i j at ear trace =
      let h = of_link i j at in
      let seat = receiver_seat i j at in
      let places : j.places ≡ plan.places = h.places in
      let column = new_column links 256 (map (λ j. j.inboxes.items) js) (ends_of js ws s).inboxes laid.inboxes i j.inboxes.items (mapped_stands_there (λ (j : Receiver E B). j.inboxes.items) js i j at) in record {
        fit = record {
          link = h.few;
          some_place = omega (arith, places, plans.some_place);
          at_most = omega (arith, places, plans.at_most);
          seat = sym (ap (λ (v : RollView). v.places) seat) ∙ sym h.places;
          inboxes = column.1 ∙ laid.inbox_count ∙ sym (ap (λ modules. length (letters_of modules)) h.modules);
          made = record {
            link = h.made.link;
            places = h.made.places;
            modules = h.made.modules;
            stands = h.made.stands;
            asked = h.made.asked;
            departing = h.made.departing;
            ended = h.made.ended;
          };
          unused = record {
            ear = ear;
            trace = trace;
            post = h.post;
            inboxes = column.0;
            door = new_door s.door links (map (λ j. j.door) js) laid.door.1 i j.door (mapped_stands_there (λ (j : Receiver E B). j.door) js i j at);
            notes = line_popper 512 s.notes.items (map (λ j. j.notes) js) laid.notes.0 i j.notes (mapped_stands_there (λ (j : Receiver E B). j.notes) js i j at);
            seat = (sym (ap (λ (v : RollView). v.claimed) seat), sym (ap (λ (v : RollView). v.given) seat), sym (ap (λ (v : RollView). v.refused) seat));
            tape = h.of.none;
            lost = h.lost;
            trace_failed = h.trace_failed;
          };
        };
        order = line_popper 2 qs (map (λ (j : Receiver E B). j.order) js) orders i j.order (mapped_stands_there (λ (j : Receiver E B). j.order) js i j at);
      }

  pub receivers_ready : {L K : Type 0} → (hears : E → EarTold L) (writes : B → BookTold K) (qs : List (PushEnd Order)) (ears : List E) (traces : List B) → IsPlan plan → AreOrdersOf (λ (j : Receiver E B). j.order) qs js → map (λ (j : Receiver E B). j.ear) js ≡ ears → map (λ (j : Receiver E B). j.trace) js ≡ traces → All (λ e. StartsEmpty (hears e).heard) ears → All (λ b. StartsEmpty (writes b).written) traces → All (receivers.IsReady hears writes) js
  receivers_ready hears writes qs ears traces plans orders are_ears are_traces new_ears new_traces =
      All-from_recursion (receivers.IsReady hears writes) js (holds_of_each_by_place (receivers.IsReady hears writes) js (λ i j at.
      receiver_ready hears writes qs plans orders i j at
      (all_at (λ e. StartsEmpty (hears e).heard) ears (recursion_from_All (λ e. StartsEmpty (hears e).heard) ears new_ears) i j.ear
      (sym (ap (λ (l : List E). slice_get l i) are_ears) ∙ mapped_stands_there (λ (j : Receiver E B). j.ear) js i j at))
      (all_at (λ b. StartsEmpty (writes b).written) traces (recursion_from_All (λ b. StartsEmpty (writes b).written) traces new_traces) i j.trace
      (sym (ap (λ (l : List B). slice_get l i) are_traces) ∙ mapped_stands_there (λ (j : Receiver E B). j.trace) js i j at))))

  -- a worker whose book is new
  worker_ready : {L : Type 0} → (writes : B → BookTold L) (qs : List (PushEnd Order)) → IsPlan plan → 0 < links → links ≤ 4 → AreOrdersOf (λ (w : Worker B). w.order) qs ws → (m : ℕ) (w : Worker B) → slice_get ws m ≡ Some w → StartsEmpty (writes w.book).written → workers.IsReady writes w
  worker_ready writes qs plans some few orders m w at book =
      let h = of_module m w at in
      let it = worker_of m w at in
      let seat = worker_seat m w at in
      let row = new_queues 64 (module_count plan) plan.places (map (λ w. w.offers.queues.items) ws) (ends_of js ws s).heads laid.queues m w.offers.queues.items (mapped_stands_there (λ (w : Worker B). w.offers.queues.items) ws m w at) in
      let places : w.module.setup.places ≡ plan.places = ap (λ (setup : module_items.Setup). setup.places) h.setup in
      let of_links : w.links ≡ links = h.links_are in record {
        fit = record {
          letter = h.letter;
          some_link = omega (arith, of_links);
          links = omega (arith, of_links);
          limit = ap (λ (setup : module_items.Setup). setup.limit) h.setup ∙ sym h.limit;
          places = omega (arith, places, plans.at_most);
          queues = (
            it.count ∙ sym places,
            All-from_recursion IsQueue w.offers.queues.items (holds_of_each_by_place IsQueue w.offers.queues.items (λ i q at_q.
                let ends = line_pusher 64 w.offers.queues.items row.0 row.1 i q at_q in (ends.0.1, ends.1))),
          );
          stands = h.stands;
          unused = record {
            book = book;
            book_failed = h.book_failed;
            basket = h.basket;
            inbox = new_inbox links 256 (ends_of js ws s).columns (map (λ w. w.inbox) ws) laid.inboxes m w.inbox (mapped_stands_there (λ (w : Worker B). w.inbox) ws m w at);
            queues = it.queues;
            missed = h.missed;
            seat = (sym (ap (λ (v : RollView). v.claimed) seat), sym (ap (λ (v : RollView). v.given) seat), sym (ap (λ (v : RollView). v.refused) seat));
            tape = h.none;
          };
        };
        order = line_popper 2 qs (map (λ (w : Worker B). w.order) ws) orders m w.order (mapped_stands_there (λ (w : Worker B). w.order) ws m w at);
      }

  pub workers_ready : {L : Type 0} → (writes : B → BookTold L) (qs : List (PushEnd Order)) (books : List B) → IsPlan plan → 0 < links → links ≤ 4 → AreOrdersOf (λ (w : Worker B). w.order) qs ws → map (λ (w : Worker B). w.book) ws ≡ books → All (λ b. StartsEmpty (writes b).written) books → All (workers.IsReady writes) ws
  workers_ready writes qs books plans some few orders are_books new_books =
      All-from_recursion (workers.IsReady writes) ws (holds_of_each_by_place (workers.IsReady writes) ws (λ m w at.
      worker_ready writes qs plans some few orders m w at
      (all_at (λ b. StartsEmpty (writes b).written) books (recursion_from_All (λ b. StartsEmpty (writes b).written) books new_books) m w.book
      (sym (ap (λ (l : List B). slice_get l m) are_books) ∙ mapped_stands_there (λ (w : Worker B). w.book) ws m w at))))

  -- the sender, with a mouth for each link
  pub sender_ready : length s.mouths.items ≡ links → senders.IsReady s
  sender_ready mouths = record {
    shaped = record {
      links = laid.notes.0.count ∙ laid.notes.1 ∙ sym mouths;
      modules = made.sender.rows ∙ sym laid.queues.count.1 ∙ length-map s.queues.items (λ row. row.items);
      queues = All-from_recursion (λ row. length row ≡ s.places) (queues_of s) (holds_of_each_by_place (λ row. length row ≡ s.places) (queues_of s) (λ m head at.
          (new_heads 64 (module_count plan) plan.places (ends_of js ws s).queues (queues_of s) laid.queues m head at).2 ∙ sym made.sender.of.places));
      cells = subst (λ (n : ℕ). All (λ row. length row ≡ n) (cells_of s)) (sym made.sender.of.places) made.sender.cells;
    };
    queues = All-from_recursion IsNewPopRow (queues_of s) (holds_of_each_by_place IsNewPopRow (queues_of s) (λ m head at.
        let row = new_heads 64 (module_count plan) plan.places (ends_of js ws s).queues (queues_of s) laid.queues m head at in
        All-from_recursion IsNewPopper head (holds_of_each_by_place IsNewPopper head (λ i p at_p. line_popper 64 row.0 head row.1 i p at_p))));
    door = ap (λ p. p.popped) laid.door.0;
    held = made.sender.none;
  }
