-- A run put together: what its jobs have done, and what was made of the ends of their lanes, is what the headline says.
use Rattle.m17_reflect.proofs.ModuleTrails.{OneTrailLaws, Inboxes, claims_in}
use Rattle.std.proofs.Common.{◌≡◌, ℕ, Bool, true, false, List, [], ◌∷◌, map, length, Some, sym, subst, refl, ◌∙◌, arith, zero, suc, ◌+◌, ◌++◌, ap}
use Rattle.std.specs.Prelude.{◌⊎◌, ◌||◌, IsTrue, slice_get}
use Rattle.std.specs.List.{AllByRecursion, list_any, AllZip}
use Rattle.std.proofs.lemmas.List.{length-map}
use Rattle.std.proofs.lemmas.List.Elements.{All-from_recursion}
use Rattle.m17_values.specs.declared.heard.Heard.{Heard}
use Rattle.m17_ports.specs.Book.{BookTold}
use Rattle.m17_ports.specs.Ear.{EarTold}
use Rattle.m17_ports.specs.Mouth.{MouthTold}
use Rattle.m17_control.specs.declared.event.Event.{Event}
use Rattle.m17_control.specs.declared.item.Item.{Item}
use Rattle.m17_module.specs.Laws.{ItemsAreAtPlaces}
use Rattle.m17_directory.specs.Laws.{RouteIsOfClaimed, ClaimsAreAsked}
use Rattle.m17_lane.specs.Ends.{TrailEnd, PushEnd, PopEnd, new_pushers}
use Rattle.m17_lane.specs.RowsLaws.{RowsGrow}
use Rattle.m17_lane.specs.Laid.{IsLaid}
use Rattle.m17_lane.specs.Trails as grid
use Rattle.m17_roll.specs.Closing.{EndView, IsEnded}
use Rattle.m17_receiver.specs.declared.receiver.Receiver.{Receiver}
use Rattle.m17_receiver.specs.Devices.{IsCounted}
use Rattle.m17_worker.specs.declared.worker.Worker.{Worker}
use Rattle.m17_worker.specs.WorkerDid.{HasServed, WorkerDid, HasWorked}
use Rattle.m17_plan.specs.declared.plan.Plan.{Plan}
use Rattle.m17_reflect.specs.Links.{Link, IsLink, At, link_setup}
use Rattle.m17_reflect.specs.Run.{Run, Devices, Handed}
use Rattle.m17_reflect.specs.Trails.{AreTrails, events_of}
use Rattle.m17_reflect.specs.Judged.{IsJudged}
use Rattle.m17_reflect.specs.Places.{AreClaims, ArePlacesBack}
use Rattle.m17_reflect.specs.Queues.{QueuesCarry, carried}
use Rattle.m17_reflect.specs.Sendings.{MouthsSay}
use Rattle.m17_reflect.specs.Patience.{PlacesAreFull, SomeRose}
use Rattle.m17_reflect.specs.Headline.{IsCarriedOut, Headline}
use Rattle.m17_reflect.proofs.PlaceByPlace.{at_below, below_at, AllZip3, zip3_at, zip3_length, zip_at}
use Rattle.m17_reflect.specs.Jobs.{AreReceivers, AreJobs}
use Rattle.m17_reflect.proofs.LinksHeard.{Came, HasHeardAll, ear_tells, trace_tells, tape_of, column_of, all_came, all_counted, ears_heard, traces_written, link_tapes, columns_routed}
use Rattle.m17_reflect.proofs.ModulesWorked.{Rows, book_tells, HaveWorked, AreBack, inbox_of, all_trails, all_served, all_admitted, all_tapes, all_books, all_spelled, QueuesBack, all_queues, at_any, lost_of, lost_where, lost_only_where, or_later, trace_failed_of, book_failed_of, failed_only_where}
use Rattle.m17_reflect.proofs.RollSeats.{IsRollOf, roll_claims, claims_placed, FullLaws, who_is_full, seat_of}
use Rattle.m17_reflect.proofs.GivenBack.{worker_seat}
use Rattle.m17_reflect.proofs.Mouths.{MouthLaws, mouths_say}
use Rattle.m17_reflect.proofs.OrdersObeyed.{OrderLaws, receiver_order, worker_order, all_heared, all_worked, sender_order, sender_went, OrdersCame}
use Rattle.m17_reflect.proofs.PlacesBack.{PlaceLaws, IsClosed, all_places, IsRollOfRun, are_claims, are_members, members_differ, new_row}
use Rattle.std.proofs.lemmas.Slice.Zip.{AllZip-long}
use Rattle.m17_values.specs.declared.member.Member.{Member}
use Rattle.m17_control.specs.declared.item.Direct.{Direct}
use Rattle.m17_crew.specs.declared.order.Order.{Order}
use Rattle.m17_crew.specs.declared.order.Order.TheVariants.{Go, Stop}
use Rattle.m17_lane.specs.Rows.{as_new_popper}
use Rattle.m17_lane.specs.Trails.{IsTrailOf, AreTrailsOfOnes}
use Rattle.m17_roll.specs.Laws.{NoMemberIsClaimedTwice}
use Rattle.m17_receiver.specs.ReceiverDid.{ReceiverDid}
use Rattle.m17_sender.specs.declared.sender.Sender.{Sender}
use Rattle.m17_sender.specs.Places.{queues_of, cells_of}
use Rattle.m17_sender.specs.Ready.{IsShaped}
use Rattle.m17_sender.specs.Sent.{Sent, SenderDid}
use Rattle.m17_plan.specs.Planned.{module_count}
use Rattle.m17_reflect.specs.Rest.{SaysRest}
use Rattle.m17_reflect.specs.Rows.{AreOfOnes, AreRowsOfTrails}
use Rattle.m17_reflect.specs.Gathered.{IsClosedOf}
use Rattle.m17_reflect.proofs.EndsBack.{queues_at, door_of, notes_at, rows_made, rows_count, rows_trails, rows_back, none_took, none_gave}
use Rattle.m17_reflect.proofs.LanesDrained.{queues_back, carried_drained}

-- The jobs that hear and decide, and the mouths.
pub record Jobs (E M B : Type 0) : Type 0 where
  pub receivers : List (Receiver E B)
  pub workers : List (Worker B)
  pub mouths : List M

-- What was made of the ends of their lanes: the inboxes, the queues when they were drained, and the roll.
pub record Made : Type 0 where
  pub trails : List (TrailEnd Event)
  pub rows : List Rows
  pub roll : EndView

abbrev pub shows : {E M B EL ML BL : Type 0} → (E → EarTold EL) → (M → MouthTold ML) → (B → BookTold BL) → Jobs E M B → Devices EL ML BL
shows hears tells writes jobs = record {
  ears = map (ear_tells hears) jobs.receivers;
  mouths = map tells jobs.mouths;
  traces = map (trace_tells writes) jobs.receivers;
  books = map (book_tells writes) jobs.workers;
}

abbrev pub has_failed : {E M B : Type 0} → Jobs E M B → Bool
has_failed jobs = list_any trace_failed_of jobs.receivers || list_any book_failed_of jobs.workers

module _ {E M B : Type 0} where
  abbrev pub hands : Jobs E M B → Made → Handed
  hands jobs made = record {
    trails = made.trails;
    queues = map (λ (r : Rows). r.trails) made.rows;
    roll = made.roll;
    missed = map (λ (k : Worker B). k.offers.missed) jobs.workers;
    admitted = map (λ (k : Worker B). k.module.admitted) jobs.workers;
    link_tapes = map tape_of jobs.receivers;
    tapes = map (λ (k : Worker B). k.tape) jobs.workers;
    lost = list_any lost_of jobs.receivers;
    book_failed = has_failed jobs;
  }

-- A run by its jobs: as they were started, and as they came back.
pub record Course (E M B EL ML BL : Type 0) : Type 0 where
  pub hears : E → EarTold EL
  pub tells : M → MouthTold ML
  pub writes : B → BookTold BL
  pub plan : Plan
  pub before : Jobs E M B
  pub after : Jobs E M B
  pub made : Made

abbrev pub run_of : {E M B EL ML BL : Type 0} → Course E M B EL ML BL → Run EL ML BL
run_of c = record {
  plan = c.plan;
  before = shows c.hears c.tells c.writes c.before;
  after = shows c.hears c.tells c.writes c.after;
  handed = hands c.after c.made;
}

-- What the jobs did and their ends came to, in the words of the jobs, the lanes and the roll.
pub record Facts {E M B EL ML BL : Type 0} (c : Course E M B EL ML BL) (heards : List (List Heard)) : Type 0 where
  pub are : AreReceivers c.plan c.before.receivers
  pub heared : AllZip3 (HasHeardAll c.hears c.writes) c.before.receivers c.after.receivers heards
  pub worked : HaveWorked c.writes c.plan (length c.before.receivers) c.before.workers c.after.workers
  pub came_back : length c.after.workers ≡ length c.before.workers
  pub laid : IsLaid (length c.before.receivers) 256 (map column_of c.before.receivers) (map inbox_of c.before.workers)
  pub trails : grid.AreTrails (map column_of c.after.receivers) (map inbox_of c.after.workers) c.made.trails
  pub row_count : length c.made.rows ≡ length c.after.workers
  pub rows : (m : ℕ) (k : Worker B) (r : Rows) → slice_get c.after.workers m ≡ Some k → At c.made.rows m r → QueuesBack c.plan k r
  pub roll : IsRollOf c.after.receivers (map worker_seat c.after.workers) c.made.roll
  pub ended : IsEnded c.made.roll
  pub places : length c.made.roll.words ≡ c.plan.places

-- The laws that this rests on.
pub record TrailLaws : Type 0 where
  pub trail : OneTrailLaws
  pub claimed : RouteIsOfClaimed
  pub grow : RowsGrow Item
  pub placed : ItemsAreAtPlaces

module _ {E B : Type 0} where
  each_link : {EL BL : Type 0} (hears : E → EarTold EL) (writes : B → BookTold BL) (js ks : List (Receiver E B)) (links : List Link) → AllZip3 (Came hears writes) js ks links → AllByRecursion IsLink links
  each_link hears writes [] [] [] h = tt
  each_link hears writes [] [] (z ∷ zs) h = absurd h
  each_link hears writes [] (y ∷ ys) zs h = absurd h
  each_link hears writes (x ∷ xs) [] zs h = absurd h
  each_link hears writes (x ∷ xs) (y ∷ ys) [] h = absurd h
  each_link hears writes (x ∷ xs) (y ∷ ys) (z ∷ zs) h = (h.0.is_link, each_link hears writes xs ys zs h.1)

or_first : (a b : Bool) → a ≡ true → a || b ≡ true
or_first true b e = refl
or_first false b e = absurd cc

-- What came of the links, by their jobs.
pub record OfLinks {E M B EL ML BL : Type 0} (c : Course E M B EL ML BL) (links : List Link) : Type 0 where
  pub came : AllZip3 (Came c.hears c.writes) c.before.receivers c.after.receivers links
  pub trails : AreTrails c.plan links c.made.trails
  pub claims : c.made.roll.claimed ≡ claims_in links
  pub served : (m : ℕ) (j k : Worker B) (t : TrailEnd Event) → slice_get c.before.workers m ≡ Some j → slice_get c.after.workers m ≡ Some k → At c.made.trails m t → HasServed c.writes (events_of t) j k
  pub same_count : length links ≡ length c.before.receivers
  pub asked : (i : ℕ) (link : Link) → At links i link → ClaimsAreAsked (link_setup c.plan i) link.entries

module _ {E M B EL ML BL : Type 0} where
  each_is : (c : Course E M B EL ML BL) (links : List Link) → AllZip3 (Came c.hears c.writes) c.before.receivers c.after.receivers links → (i : ℕ) (link : Link) → At links i link → (j : Receiver E B) × (k : Receiver E B) × (slice_get c.before.receivers i ≡ Some j) × (slice_get c.after.receivers i ≡ Some k) × Came c.hears c.writes j k link
  each_is c links came i link e =
      let lens = zip3_length (Came c.hears c.writes) c.before.receivers c.after.receivers links came in
      let inside = below_at links i link e in
      let (j, at_j) = at_below c.before.receivers i (omega (arith, lens.1)) in
      let (k, at_k) = at_below c.after.receivers i (omega (arith, lens.0, lens.1)) in
      (j, k, at_j, at_k, zip3_at (Came c.hears c.writes) c.before.receivers c.after.receivers links came i j k link at_j at_k e)

  pub of_links : TrailLaws → (c : Course E M B EL ML BL) (heards : List (List Heard)) → Facts c heards → (links : List Link) → AllZip3 (Came c.hears c.writes) c.before.receivers c.after.receivers links → OfLinks c links
  of_links laws c heards f links came =
      let lens = zip3_length (Came c.hears c.writes) c.before.receivers c.after.receivers links came in
      let boxes : Inboxes = record { columns = map column_of c.before.receivers; poppers = map inbox_of c.before.workers; capacity = 256 } in
      let worked : HaveWorked c.writes c.plan (length links) c.before.workers c.after.workers = subst (λ (n : ℕ). HaveWorked c.writes c.plan n c.before.workers c.after.workers) (sym lens.1) f.worked in
      let back : AreBack c.plan links boxes c.after.workers c.made.trails = record {
        laid = subst (λ (n : ℕ). IsLaid n 256 (map column_of c.before.receivers) (map inbox_of c.before.workers)) (sym lens.1) f.laid;
        count = length-map c.before.workers inbox_of ∙ f.worked.count;
        trails_are = subst (λ cols. grid.AreTrails cols (map inbox_of c.after.workers) c.made.trails)
            (columns_routed c.hears c.writes c.plan c.before.receivers c.after.receivers links f.are came) f.trails;
      } in
      let trails = all_trails c.writes laws.trail c.plan links boxes c.before.workers c.after.workers c.made.trails
      (λ i link e. let (j, k, at_j, at_k, it) = each_is c links came i link e in it.is_link) worked back in
      let claims = roll_claims c.hears c.writes c.before.receivers c.after.receivers links (map worker_seat c.after.workers) c.made.roll came f.roll in
      let placed = claims_placed c.made.roll c.plan.places links f.ended.run f.places claims in record {
        came = came;
        trails = trails;
        claims = claims;
        served = all_served c.writes laws.claimed c.plan links boxes c.before.workers c.after.workers c.made.trails worked back trails placed;
        same_count = lens.1;
        asked = λ i link e. let (j, k, at_j, at_k, it) = each_is c links came i link e in
            subst (λ s. ClaimsAreAsked s link.entries) (f.are i j at_j).setup it.claimed.asked;
      }

  -- what was decided and written
  judged : (c : Course E M B EL ML BL) (heards : List (List Heard)) → Facts c heards → (links : List Link) → OfLinks c links → IsJudged (run_of c) links
  judged c heards f links o =
      let lens = zip3_length (Came c.hears c.writes) c.before.receivers c.after.receivers links o.came in
      let n = length c.before.receivers in record {
        admitted = all_admitted c.writes c.plan n c.before.workers c.after.workers c.made.trails f.worked o.trails.count o.served;
        link_tape_count = length-map c.after.receivers tape_of ∙ lens.0 ∙ sym lens.1;
        link_tapes = link_tapes c.hears c.writes c.plan c.before.receivers c.after.receivers links f.are o.came;
        tape_count = length-map c.after.workers (λ (k : Worker B). k.tape) ∙ f.came_back ∙ f.worked.count;
        tapes = all_tapes c.writes c.plan n c.before.workers c.after.workers c.made.trails f.worked o.served;
        written = record {
          trace_count = length-map c.after.receivers (trace_tells c.writes) ∙ lens.0 ∙ sym lens.1;
          traces = traces_written c.hears c.writes c.before.receivers c.after.receivers links (has_failed c.after) o.came
              (λ i k at_k e. or_first (list_any trace_failed_of c.after.receivers) (list_any book_failed_of c.after.workers) (at_any trace_failed_of c.after.receivers i k at_k e));
          book_count = length-map c.after.workers (book_tells c.writes) ∙ f.came_back ∙ f.worked.count;
          books = all_books c.writes c.plan n c.before.workers c.after.workers c.made.trails (has_failed c.after) f.worked o.served
              (λ m k at_k e. or_later (list_any trace_failed_of c.after.receivers) (list_any book_failed_of c.after.workers) (at_any book_failed_of c.after.workers m k at_k e));
          spelled = all_spelled c.writes c.plan n c.before.workers c.after.workers c.made.trails f.worked o.served;
        };
      }

  queues_carry : TrailLaws → (c : Course E M B EL ML BL) (heards : List (List Heard)) → Facts c heards → (links : List Link) → OfLinks c links → QueuesCarry (run_of c)
  queues_carry laws c heards f links o = record {
    count = length-map c.made.rows (λ (r : Rows). r.trails) ∙ f.row_count ∙ f.came_back ∙ f.worked.count;
    missed_count = length-map c.after.workers (λ (k : Worker B). k.offers.missed) ∙ f.came_back ∙ f.worked.count;
    each = all_queues c.writes laws.grow laws.placed c.plan (length c.before.receivers) c.before.workers c.after.workers c.made.rows c.made.trails f.worked o.served f.rows (sym f.came_back);
  }

-- What is known of a run behind its jobs: who was given back, what the mouths say, who found no place in a patient run.
pub record Rest {E M B EL ML BL : Type 0} (c : Course E M B EL ML BL) (links : List Link) : Type 0 where
  pub claims : (i : ℕ) (link : Link) → At links i link → AreClaims (link_setup c.plan i) link.entries
  pub places : ArePlacesBack c.plan.places c.made.trails c.made.roll
  pub mouths : MouthsSay (run_of c) links
  pub full : PlacesAreFull (run_of c) links

module _ {E M B EL ML BL : Type 0} where
  -- what was heard is carried out
  pub carried_out : TrailLaws → (c : Course E M B EL ML BL) (heards : List (List Heard)) → Facts c heards → (links : List Link) → OfLinks c links → map (λ (link : Link). link.heard) links ≡ heards → Rest c links → IsCarriedOut (run_of c) heards
  carried_out laws c heards f links o of_heard rest =
      record {
        links = links;
        of_heard = of_heard;
        each = All-from_recursion IsLink links (each_link c.hears c.writes c.before.receivers c.after.receivers links o.came);
        claims = rest.claims;
        trails = o.trails;
        judged = judged c heards f links o;
        places = rest.places;
        queues = queues_carry laws c heards f links o;
        mouths = rest.mouths;
        full = rest.full;
        lost = lost_where c.hears c.writes c.before.receivers c.after.receivers links o.came;
      }

  -- the headline
  pub headline : TrailLaws → (c : Course E M B EL ML BL) (heards : List (List Heard)) → Facts c heards → ((links : List Link) → map (λ (link : Link). link.heard) links ≡ heards → OfLinks c links → QueuesCarry (run_of c) → Rest c links) → (IsTrue (has_failed c.after) → SomeRose (λ t. t.faults) (shows c.hears c.tells c.writes c.before).traces (shows c.hears c.tells c.writes c.after).traces ⊎ SomeRose (λ t. t.faults) (shows c.hears c.tells c.writes c.before).books (shows c.hears c.tells c.writes c.after).books) → Headline (run_of c)
  headline laws c heards f rest failed =
      let lens = zip3_length (HasHeardAll c.hears c.writes) c.before.receivers c.after.receivers heards f.heared in record {
        heard = heards;
        ears = record {
          count = lens.1 ∙ sym (length-map c.before.receivers (ear_tells c.hears));
          same_count = length-map c.after.receivers (ear_tells c.hears) ∙ lens.0 ∙ sym (length-map c.before.receivers (ear_tells c.hears));
          each = ears_heard c.hears c.writes c.before.receivers c.after.receivers heards f.heared;
        };
        causes = record {
          lost = lost_only_where c.hears c.writes c.before.receivers c.after.receivers heards f.heared;
          book_failed = failed;
        };
        counted = All-from_recursion IsCounted heards (all_counted c.hears c.writes c.before.receivers c.after.receivers heards f.heared);
        carried_out =
            let (links, came, of_heard) = all_came c.hears c.writes c.before.receivers c.after.receivers heards f.heared in
            let o = of_links laws c heards f links came in
            carried_out laws c heards f links o of_heard (rest links of_heard o (queues_carry laws c heards f links o));
      }

-- The headline of a run, from what its calls say: what was wired, what the jobs did, what was made of their ends, what was
-- said behind them, and what the closed roll shows.

-- The laws that all rests on.
pub record Laws (L : Type 0) : Type 0 where
  pub gone : OrderLaws
  pub assembled : TrailLaws
  pub places : PlaceLaws
  pub mouths : MouthLaws L
  pub patient : FullLaws
  pub claimed : NoMemberIsClaimedTwice

-- A run whose calls have all returned. Its sender was the first, and came back as the second.
pub record IsOver {E M B EL ML BL : Type 0} (c : Course E M B EL ML BL) (s t : Sender M) : Type 0 where
  pub jobs : AreJobs c.plan (length c.before.receivers) c.before.receivers c.before.workers s
  pub received : AllZip (ReceiverDid c.hears c.writes) c.before.receivers c.after.receivers
  pub worked : AllZip (WorkerDid c.writes) c.before.workers c.after.workers
  pub sent : SenderDid c.tells s t
  pub shaped : IsShaped s
  pub mouths : c.before.mouths ≡ s.mouths.items
  pub receiver_lines : List (PushEnd Order)
  pub to_receivers : OrdersCame receiver_order (Go ∷ []) c.before.receivers c.after.receivers receiver_lines
  pub worker_lines : List (PushEnd Order)
  pub to_workers : OrdersCame worker_order (Go ∷ []) c.before.workers c.after.workers worker_lines
  pub sender_lines : List (PushEnd Order)
  pub to_sender : OrdersCame sender_order (Go ∷ Stop ∷ []) (s ∷ []) (t ∷ []) sender_lines
  pub trails : grid.AreTrails (map column_of c.after.receivers) (map inbox_of c.after.workers) c.made.trails
  pub row_ends : AllZip AreOfOnes (map queues_at c.after.workers) (queues_of t)
  pub rows : List (List (TrailEnd Item))
  pub row_trails : AreRowsOfTrails (map queues_at c.after.workers) (queues_of t) rows
  pub made_rows : c.made.rows ≡ rows_made (queues_of t) rows
  pub door : TrailEnd Direct
  pub door_trail : IsTrailOf (map door_of c.after.receivers) t.door door
  pub notes : List (TrailEnd Member)
  pub note_trails : AreTrailsOfOnes t.notes.items (map notes_at c.after.receivers) notes
  pub rest : SaysRest c.tells t.name (record { cells = cells_of t; queues = rows; door = door })
      t.mouths.items c.after.mouths
  pub roll : IsClosedOf (map seat_of c.after.receivers ++ map worker_seat c.after.workers) c.made.roll
  pub places : length c.made.roll.words ≡ c.plan.places

module _ {E M B EL ML BL : Type 0} where
  have_worked : Laws ML → (c : Course E M B EL ML BL) (s t : Sender M) → IsOver c s t → HaveWorked c.writes c.plan (length c.before.receivers) c.before.workers c.after.workers
  have_worked laws c s t h = record {
    are = h.jobs.workers;
    count = sym (length-map c.before.workers inbox_of) ∙ h.jobs.laid.inbox_count;
    worked = all_worked c.writes laws.gone c.before.workers c.after.workers h.worker_lines h.worked h.to_workers;
  }

  its_sender : (laws : Laws ML) (c : Course E M B EL ML BL) (s t : Sender M) → (h : IsOver c s t) → Sent c.tells s t h.sent.order
  its_sender laws c s t h = sender_went laws.gone c.tells (Stop ∷ []) s t h.sender_lines h.to_sender h.sent

  head_count : (laws : Laws ML) (c : Course E M B EL ML BL) (s t : Sender M) → IsOver c s t → length (queues_of t) ≡ module_count c.plan
  head_count laws c s t h =
      let same = (its_sender laws c s t h).lanes.same_queues in
      sym (length-map (queues_of t) (map as_new_popper)) ∙ ap length same ∙ length-map (queues_of s) (map as_new_popper) ∙ h.jobs.laid.queues.count.1

-- as many ends stand in a row that came back
pub same_row_length : (before after : List (List (PopEnd Item))) → map (map as_new_popper) after ≡ map (map as_new_popper) before → (m : ℕ) (row row' : List (PopEnd Item)) → slice_get before m ≡ Some row → slice_get after m ≡ Some row' → length row' ≡ length row
same_row_length [] [] e m row row' at at' = absurd cc
same_row_length [] (y ∷ after) e m row row' at at' = absurd cc
same_row_length (x ∷ before) [] e m row row' at at' = absurd cc
same_row_length (x ∷ before) (y ∷ after) e zero row row' at at' =
    let a : x ≡ row = cc in let b : y ≡ row' = cc in
    let here : map as_new_popper y ≡ map as_new_popper x = cc in
    sym (ap length b) ∙ sym (length-map y as_new_popper) ∙ ap length here ∙ length-map x as_new_popper ∙ ap length a
same_row_length (x ∷ before) (y ∷ after) e (suc m) row row' at at' =
    let rest : map (map as_new_popper) after ≡ map (map as_new_popper) before = cc in same_row_length before after rest m row row' at at'

-- as many push as pop
ones_long : (qs : List (PushEnd Item)) (ps : List (PopEnd Item)) → AreOfOnes qs ps → length qs ≡ length ps
ones_long qs ps h = sym (length-map qs (λ (q : PushEnd Item). q.lane)) ∙ ap length h.lanes ∙ length-map ps (λ (p : PopEnd Item). p.lane)

module _ {E M B EL ML BL : Type 0} where
  -- each row of queues has one for each place
  row_places : (laws : Laws ML) (c : Course E M B EL ML BL) (s t : Sender M) → IsOver c s t → (m : ℕ) (head : List (PopEnd Item)) → slice_get (queues_of t) m ≡ Some head → length head ≡ c.plan.places
  row_places laws c s t h m head at =
      let inside = below_at (queues_of t) m head at in
      let many = head_count laws c s t h in
      let counts = h.jobs.laid.queues.count in
      let (first, at_first) = at_below (queues_of s) m (omega (arith, many, counts.1)) in
      let (row, at_row) = at_below (map queues_at c.before.workers) m (omega (arith, many, counts.0)) in
      same_row_length (queues_of s) (queues_of t) (its_sender laws c s t h).lanes.same_queues m first head at_first at
      ∙ (h.jobs.laid.queues.each m row first at_row at_first).1

  -- what the jobs, the lanes and the roll say of the run
  pub facts : (laws : Laws ML) (c : Course E M B EL ML BL) (s t : Sender M) → IsOver c s t → (heards : List (List Heard)) → AllZip3 (HasHeardAll c.hears c.writes) c.before.receivers c.after.receivers heards → Facts c heards
  facts laws c s t h heards heared =
      let worked = have_worked laws c s t h in
      let back = AllZip-long (HasWorked c.writes) c.before.workers c.after.workers worked.worked in
      let long : length h.rows ≡ length (queues_of t) = h.row_trails.count in record {
        are = h.jobs.receivers;
        heared = heared;
        worked = worked;
        came_back = back;
        laid = h.jobs.laid.inboxes;
        trails = h.trails;
        row_count = ap length h.made_rows ∙ rows_count (queues_of t) h.rows long ∙ head_count laws c s t h ∙ sym (back ∙ worked.count);
        rows = λ m k r at_k at_r. rows_back c.plan c.after.workers (queues_of t) h.rows h.row_trails (row_places laws c s t h) m k r at_k
            (subst (λ rs. At rs m r) h.made_rows at_r);
        roll = record {
          claimed = h.roll.claimed;
          refused = h.roll.refused;
          no_other = none_took c.writes (map seat_of c.before.receivers) c.before.workers c.after.workers c.plan.places
              (length c.before.receivers + module_count c.plan) h.jobs.seats worked.worked;
        };
        ended = h.roll.ended;
        places = h.places;
      }

  -- the places of the run
  its_places : (laws : Laws ML) (c : Course E M B EL ML BL) (s t : Sender M) → IsOver c s t → (heards : List (List Heard)) → Facts c heards → (links : List Link) → OfLinks c links → ArePlacesBack c.plan.places c.made.trails c.made.roll
  its_places laws c s t h heards f links o =
      all_places laws.places c.hears c.writes c.plan c.before.receivers c.after.receivers c.before.workers c.after.workers links c.made.trails c.made.roll
      f.are o.came (subst (λ (n : ℕ). HaveWorked c.writes c.plan n c.before.workers c.after.workers) (sym o.same_count) f.worked) o.served o.trails
      (none_gave (map seat_of c.before.receivers) c.before.workers c.plan.places (length c.before.receivers + module_count c.plan) h.jobs.seats)
      (record { of_seats = f.roll; given = h.roll.given; rises = h.roll.rising; run = h.roll.ended.run; places = h.places })

  -- what the mouths of the run say
  its_mouths : (laws : Laws ML) (c : Course E M B EL ML BL) (s t : Sender M) → IsOver c s t → (heards : List (List Heard)) → Facts c heards → (links : List Link) → OfLinks c links → QueuesCarry (run_of c) → MouthsSay (run_of c) links
  its_mouths laws c s t h heards f links o carry =
      let sent = its_sender laws c s t h in
      let laid = h.jobs.laid in
      let back = its_places laws c s t h heards f links o in
      let of_run : IsRollOfRun (run_of c) links = record { roll = h.roll.ended.run; count = h.places; claims = o.claims; joins = back.joins } in
      let long : length h.rows ≡ length (queues_of t) = h.row_trails.count in
      let name : t.name ≡ c.plan.name = sent.same_name ∙ h.jobs.sender.name in
      let rest = subst (λ (n : ℕ). SaysRest c.tells n (record { cells = cells_of t; queues = h.rows; door = h.door }) t.mouths.items c.after.mouths) name h.rest in
      mouths_say laws.mouths c.hears c.writes c.tells (run_of c) links
      (record { js = c.before.receivers; ks = c.after.receivers; first = s; last = t; order = h.sent.order; notes = h.notes; queues = h.rows; door = h.door; mouths = c.after.mouths })
      (record {
        members = are_members (run_of c) links o.trails carry of_run;
        differ = members_differ laws.claimed (run_of c) links of_run;
        are = h.jobs.receivers;
        came = o.came;
        sent = sent;
        name = h.jobs.sender.name;
        places = h.jobs.sender.places;
        mouth_count = sym h.shaped.links ∙ laid.notes.0.count ∙ laid.notes.1 ∙ sym o.same_count;
        lanes = record {
          door_popper = s.door;
          new_doors = subst (λ (n : ℕ). map door_of c.before.receivers ≡ new_pushers s.door n) (sym o.same_count) laid.door.1;
          door = h.door_trail;
          new_notes = new_row s.notes.items (λ i q at.
              let inside = below_at s.notes.items i q at in
              let count = laid.notes.0.count in
              let (p, at_p) = at_below (map notes_at c.before.receivers) i (omega arith) in
              let made = (laid.notes.0.each i q p at at_p).1 in
              (ap (λ (r : PushEnd Member). r.pushed) made, ap (λ (r : PushEnd Member). r.refused) made));
          notes = h.note_trails;
          note_count = laid.notes.0.count ∙ laid.notes.1 ∙ sym o.same_count;
          queues = queues_back (map queues_at c.after.workers) (queues_of t) h.rows
              (length-map c.after.workers queues_at ∙ f.came_back ∙ f.worked.count ∙ sym (head_count laws c s t h)) long
              (λ m qs ps ts eq ep et. (ones_long qs ps (zip_at AreOfOnes (map queues_at c.after.workers) (queues_of t) h.row_ends m qs ps eq ep), h.row_trails.each m qs ps ts eq ep et));
        };
        drained = λ m q.
            ap (λ queues. carried queues m q) (ap (map (λ r. r.trails)) h.made_rows ∙ rows_trails (queues_of t) h.rows long)
            ∙ carried_drained h.rows m q;
        rest = record { acts = rest.acts; things = rest.things; answers = rest.answers; mouths = rest.mouths };
        before = ap (map c.tells) h.mouths;
        after = refl;
      })

  -- The headline.
  pub whole : (laws : Laws ML) (c : Course E M B EL ML BL) (s t : Sender M) → IsOver c s t → Headline (run_of c)
  whole laws c s t h =
      let (heards, heared) = all_heared c.hears c.writes laws.gone c.before.receivers c.after.receivers h.receiver_lines h.received h.to_receivers in
      let f = facts laws c s t h heards heared in
      headline laws.assembled c heards f
      (λ links of_heard o carry. record {
        claims = are_claims laws.claimed (run_of c) links
            (record { roll = h.roll.ended.run; count = h.places; claims = o.claims; joins = (its_places laws c s t h heards f links o).joins }) o.asked;
        places = its_places laws c s t h heards f links o;
        mouths = its_mouths laws c s t h heards f links o carry;
        full = who_is_full laws.patient c.hears c.writes (run_of c) c.before.receivers c.after.receivers links (map worker_seat c.after.workers)
            (record { receivers = f.are; came = o.came; roll = f.roll; ended = h.roll.ended; places = h.places; workers = length-map c.after.workers worker_seat ∙ f.came_back ∙ f.worked.count }) carry o.trails.count;
      })
      (failed_only_where c.hears c.writes c.before.receivers c.after.receivers heards c.before.workers c.after.workers heared f.worked.worked)
