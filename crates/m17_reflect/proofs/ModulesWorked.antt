-- What the workers of a run have done, module by module.
use Rattle.std.proofs.Common.{◌≡◌, ℕ, zero, suc, ◌+◌, ◌-◌, ◌^◌, ◌<◌, ◌≤◌, Bool, true, false, cond, List, [], ◌∷◌, map, length, min, take, Option, None, Some, sym, subst, refl, ap, ◌∙◌, arith, ◌++◌, inl, inr}
use Rattle.std.specs.Prelude.{slice_get, IsSomeAnd, ◌↔◌, ◌||◌, IsTrue, not, ◌⊎◌}
use Rattle.std.specs.List.{AllByRecursion, AllZip, flat_map, range_with_len, list_any}
use Rattle.std.proofs.lemmas.Option.{same_Some, none-some}
use Rattle.std.proofs.lemmas.List.Elements.{recursion_from_All}
use Rattle.m17_ports.specs.Book.{BookTold}
use Rattle.m17_control.specs.declared.event.Event.{Event}
use Rattle.m17_control.specs.declared.item.Item.{Item}
use Rattle.m17_floor.specs.Floor.{admitted_count}
use Rattle.m17_module.specs.Events.{acts_of}
use Rattle.m17_module.specs.Items as module_items
use Rattle.m17_module.specs.Items.{floor_setup, items_at, items_given}
use Rattle.m17_lane.specs.Ends.{PushEnd, PopEnd, TrailEnd}
use Rattle.m17_lane.specs.Orders.{items_of}
use Rattle.m17_lane.specs.Rows.{grow_each, IsNewRow, IsNewPusher}
use Rattle.m17_lane.specs.RowsLaws.{RowsGrow}
use Rattle.m17_lane.specs.Trails.{IsTrailOfOne, AreTrailsOfOnes, IsTrailOf}
use Rattle.m17_worker.specs.declared.worker.Worker.{Worker}
use Rattle.m17_worker.specs.Offers.{Try, queued_for, missed_for, count_missed, counted_on}
use Rattle.m17_worker.specs.Records.{book_text, records_of, IsBookText}
use Rattle.m17_worker.specs.Taken.{taken, is_there, EndsWithStops}
use Rattle.m17_worker.specs.Tape.{verdict_on}
use Rattle.m17_worker.specs.WorkerDid.{head_of, HasServed, HasWorked}
use Rattle.m17_book.specs.declared.head.Head.{Head}
use Rattle.m17_plan.specs.declared.plan.Plan.{Plan}
use Rattle.m17_reflect.specs.Jobs.{IsWorkerOf}
use Rattle.m17_reflect.specs.Links.{At, letter_of, setup_at, Link, IsLink}
use Rattle.m17_reflect.specs.Judged.{IsModuleTape, IsWritten, floors_of, head_at}
use Rattle.m17_reflect.specs.Queues.{IsQueue, Carry, Carriers}
use Rattle.m17_reflect.proofs.PlaceByPlace.{at_below, below_at, zip_at, unmapped, mapped_at, AllZip3, zip3_at, zip3_length}
use Rattle.m17_reflect.proofs.LinksHeard.{all_at, Came, HasHeardAll, ear_tells, trace_tells}
use Rattle.std.proofs.lemmas.List.{length-map}
use Rattle.std.proofs.lemmas.Slice.Zip.{AllZip-long}
use Rattle.m17_floor.specs.declared.verdict.Verdict.{Verdict}
use Rattle.m17_lane.specs.Laid.{IsLaid}
use Rattle.m17_lane.specs.Trails as grid
use Rattle.m17_directory.specs.Laws.{RouteIsOfClaimed, claimed_members}
use Rattle.m17_reflect.specs.Run.{module_count}
use Rattle.m17_reflect.specs.Trails.{events_of, AreTrails}
use Rattle.m17_reflect.proofs.ModuleTrails.{OneTrailLaws, Inboxes, routed_columns, one_trail, is_at, trail_is_there}
use Rattle.std.proofs.lemmas.List.Sums.{sum_by-cons}
use Rattle.m17_values.specs.declared.heard.Heard.{Heard}
use Rattle.m17_ports.specs.Ear.{EarTold}
use Rattle.m17_module.specs.Laws.{ItemsAreAtPlaces}
use Rattle.m17_receiver.specs.declared.receiver.Receiver.{Receiver}
use Rattle.m17_receiver.specs.Devices.{EndsInFaults}
use Rattle.m17_reflect.specs.Patience.{SomeLost, SomeRose}
use Rattle.std.proofs.lemmas.Bool.{or_cases}

abbrev pub book_tells : {B BL : Type 0} → (B → BookTold BL) → Worker B → BookTold BL
book_tells writes j = writes j.book

-- all events are taken where each names a link and a place that are there
all_taken_step : (b : Bool) (e : Event) (xs ys : List Event) → b ≡ true → xs ≡ ys → cond b (e ∷ xs) xs ≡ e ∷ ys
all_taken_step true e xs ys is same = ap (λ (l : List Event). e ∷ l) same
all_taken_step false e xs ys is same = absurd cc

pub all_taken : (links places : ℕ) (events : List Event) → AllByRecursion (λ event. is_there links places event ≡ true) events → taken links places events ≡ events
all_taken links places [] h = refl
all_taken links places (e ∷ events) h =
    all_taken_step (is_there links places e) e (taken links places events) events h.0 (all_taken links places events h.1)

-- What became of the events of a module, in the order of its trail.
pub served : {B BL : Type 0} (writes : B → BookTold BL) (j k : Worker B) (events : List Event) → HasWorked writes j k → k.inbox.popped ≡ events → AllByRecursion (λ event. is_there j.links j.module.setup.places event ≡ true) events → HasServed writes events j k
served writes j k events h is there =
    subst (λ (es : List Event). HasServed writes es j k)
    (ap (taken j.links j.module.setup.places) is ∙ all_taken j.links j.module.setup.places events there) h.served

module _ {B : Type 0} where
  pub admitted_of : {BL : Type 0} (writes : B → BookTold BL) (plan : Plan) (links m : ℕ) (j k : Worker B) (events : List Event) → IsWorkerOf plan links m j → HasWorked writes j k → HasServed writes events j k → k.module.admitted ≡ admitted_count (floors_of plan) (acts_of events)
  admitted_of writes plan links m j k events is worked h =
      h.stands.admitted ∙ ap (λ (s : module_items.Setup). admitted_count (floor_setup s) (acts_of events)) (worked.same.setup ∙ is.setup)

  pub tape_is : {BL : Type 0} (writes : B → BookTold BL) (plan : Plan) (links m : ℕ) (j k : Worker B) (events : List Event) → IsWorkerOf plan links m j → HasWorked writes j k → HasServed writes events j k → IsModuleTape (setup_at plan m) events plan.entries k.tape
  tape_is writes plan links m j k events is worked h = record {
    length_is = worked.same.cells ∙ is.cells;
    verdicts = λ index lt. h.taped index lt ∙ ap (λ (s : module_items.Setup). Some (verdict_on s events index)) is.setup;
  }

  -- the header of a module's book is as the plan has it
  head_is : (plan : Plan) (links m : ℕ) (j : Worker B) → IsWorkerOf plan links m j → head_of j ≡ head_at plan m
  head_is plan links m j is =
      ap (λ (letter : ℕ). let head : Head = record { «module» = letter; limit = j.limit } in head) is.letter
      ∙ ap (λ (limit : ℕ). let head : Head = record { «module» = letter_of plan m; limit = limit } in head) is.limit

  pub book_is : {BL : Type 0} (writes : B → BookTold BL) (plan : Plan) (links m : ℕ) (j k : Worker B) (events : List Event) (failed : Bool) → IsWorkerOf plan links m j → HasServed writes events j k → (k.book_failed ≡ true → failed ≡ true) → IsWritten failed (book_tells writes j) (book_text (head_at plan m) (records_of (setup_at plan m) events)) (book_tells writes k)
  book_is writes plan links m j k events failed is h flag =
      subst (λ (head : Head). IsWritten failed (book_tells writes j) (book_text head (records_of (setup_at plan m) events)) (book_tells writes k)) (head_is plan links m j is)
      (subst (λ (s : module_items.Setup). IsWritten failed (book_tells writes j) (book_text (head_of j) (records_of s events)) (book_tells writes k)) is.setup
      (k.book_failed, h.booked, flag))

  pub spelled_is : {BL : Type 0} (writes : B → BookTold BL) (plan : Plan) (links m : ℕ) (j k : Worker B) (events : List Event) (bytes : List ℕ) → IsWorkerOf plan links m j → HasServed writes events j k → (book_tells writes k).written ≡ Some bytes → IsBookText (head_at plan m) (records_of (setup_at plan m) events)
  spelled_is writes plan links m j k events bytes is h told =
      subst (λ (head : Head). IsBookText head (records_of (setup_at plan m) events)) (head_is plan links m j is)
      (subst (λ (s : module_items.Setup). IsBookText (head_of j) (records_of s events)) is.setup (h.spelled bytes told))

-- a count from 0
counted_from_none : (n : ℕ) → counted_on 0 n ≡ min n (2 ^ 64 - 1)
counted_from_none zero = refl
counted_from_none (suc n) =
    let same : 0 + suc n ≡ suc n = omega arith in ap (λ (x : ℕ). min x (2 ^ 64 - 1)) same

-- an item that was tried is of what was given
tried_item : (P : Item → Type 0) (tries : List Try) (n : ℕ) (t : Try) → AllByRecursion P (map (λ (t : Try). t.item) tries) → slice_get tries n ≡ Some t → P t.item
tried_item P [] n t h e = absurd (none-some t e)
tried_item P (u ∷ tries) zero t h e = subst (λ (v : Try). P v.item) (same_Some u t e) h.0
tried_item P (u ∷ tries) (suc n) t h e = tried_item P tries n t h.1 e

if_some : {A : Type 0} (P : A → Type 0) (o : Option A) (x : A) → o ≡ Some x → IsSomeAnd o P → P x
if_some P None x e h = absurd (none-some x e)
if_some P (Some y) x e h = subst P (same_Some y x e) h

full_of : (q : PushEnd Item) (n : ℕ) → IsNewPusher q → 64 ≤ length q.pushed + n → 64 ≤ n
full_of q n new h = let none = ap length new.0 in omega arith

-- The ends of a module's queues: those that the worker had, those that the sender had when they came back, and the trails.
pub record Rows : Type 0 where
  pub pushers : List (PushEnd Item)
  pub poppers : List (PopEnd Item)
  pub trails : List (TrailEnd Item)

-- one queue
queue_is : RowsGrow Item → (tries : List Try) (place : ℕ) (before : List (PushEnd Item)) (q : PushEnd Item) (p : PopEnd Item) (t : TrailEnd Item) → IsNewRow before → slice_get (grow_each (queued_for tries) (missed_for tries) 0 before) place ≡ Some q → IsTrailOfOne q p t → t.popped ≡ items_of t.order → IsQueue tries place t
queue_is law tries place before q p t new e h drained =
    let (pushed, refused) = law.from_new (queued_for tries) (missed_for tries) before place q new e in record {
      order = h.order ∙ pushed;
      popped = drained;
      refused = h.trail.refused ∙ ap (λ (l : List Item). l ∷ []) refused;
    }

-- the queues of a module
pub carries : {B BL : Type 0} (writes : B → BookTold BL) (law : RowsGrow Item) (plan : Plan) (links m : ℕ) (j k : Worker B) (events : List Event) (rows : Rows) → IsWorkerOf plan links m j → HasServed writes events j k → AreTrailsOfOnes k.offers.queues.items rows.poppers rows.trails → length rows.poppers ≡ plan.places → ((q : ℕ) (t : TrailEnd Item) → At rows.trails q t → t.popped ≡ items_of t.order) → AllByRecursion (λ (item : Item). item.member.place < plan.places) (items_given (setup_at plan m) events) → Carry events (record { setup = setup_at plan m; patient = plan.patient; queues = rows.trails; missed = k.offers.missed })
carries writes law plan links m j k events rows is h ends count drained placed =
    let tries = h.offered.tries in let tried = h.offered.tried in
    let all : map (λ (t : Try). t.item) tries ≡ items_given (setup_at plan m) events = h.offered.of_all ∙ ap (λ (s : module_items.Setup). items_given s events) is.setup in
    let places : AllByRecursion (λ (item : Item). item.member.place < plan.places) (map (λ (t : Try). t.item) tries) = subst (AllByRecursion (λ (item : Item). item.member.place < plan.places)) (sym all) placed in
    let long : length k.offers.queues.items ≡ plan.places = ap length tried.queues ∙ law.count (queued_for tries) (missed_for tries) 0 j.offers.queues.items ∙ is.count in record {
      tries = tries;
      all_items = all;
      count = ends.count ∙ count;
      each = λ q t e.
          let inside = below_at rows.trails q t e in
          let (pusher, at_q) = at_below k.offers.queues.items q (omega (arith, ends.count, count, long)) in
          let (popper, at_p) = at_below rows.poppers q (omega (arith, ends.count)) in
          queue_is law tries q j.offers.queues.items pusher popper t is.queues
          (ap (λ (l : List (PushEnd Item)). slice_get l q) (sym tried.queues) ∙ at_q)
          (ends.each q pusher popper t at_q at_p e) (drained q t e);
      left_out = λ n t e not_queued.
          let out = tried.left_out n t e not_queued in
          let place = tried_item (λ (item : Item). item.member.place < plan.places) tries n t places e in
          let (q, at_q) = at_below j.offers.queues.items t.item.member.place (omega (arith, is.count)) in record {
            may_be = out.may_be;
            impatient = sym is.patient ∙ out.impatient;
            full = full_of q (length (queued_for (take n tries) t.item.member.place))
                (all_at IsNewPusher j.offers.queues.items (recursion_from_All IsNewPusher j.offers.queues.items is.queues) t.item.member.place q at_q)
                (if_some (λ (q : PushEnd Item). 64 ≤ length q.pushed + length (queued_for (take n tries) t.item.member.place)) (slice_get j.offers.queues.items t.item.member.place) q at_q out.full);
          };
      missed = tried.missed ∙ ap (λ (n : ℕ). counted_on n (count_missed tries)) is.missed ∙ counted_from_none (count_missed tries);
    }

-- All modules of a run together: one trail each, what was judged, and what the queues carry.

module _ {A B C : Type 0} where
  -- two lists that come to the same, place by place
  pub map_beside : (f : A → C) (g : B → C) (xs : List A) (ys : List B) → length xs ≡ length ys → ((m : ℕ) (x : A) (y : B) → slice_get xs m ≡ Some x → slice_get ys m ≡ Some y → f x ≡ g y) → map f xs ≡ map g ys
  map_beside f g [] [] e h = refl
  map_beside f g [] (y ∷ ys) e h = absurd (omega arith)
  map_beside f g (x ∷ xs) [] e h = absurd (omega arith)
  map_beside f g (x ∷ xs) (y ∷ ys) e h =
      ap (λ (c : C). c ∷ map f xs) (h 0 x y refl refl)
      ∙ ap (λ (l : List C). g y ∷ l) (map_beside f g xs ys (omega arith) (λ m x y ex ey. h (suc m) x y ex ey))

-- The workers of a run: those that were started, one for each module, and the same when they have worked.
pub record HaveWorked {B BL : Type 0} (writes : B → BookTold BL) (plan : Plan) (links : ℕ) (js ks : List (Worker B))
    : Type 0 where
  pub are : (m : ℕ) (j : Worker B) → slice_get js m ≡ Some j → IsWorkerOf plan links m j
  pub count : length js ≡ module_count plan
  pub worked : AllZip (HasWorked writes) js ks

abbrev pub inbox_of : {B : Type 0} → Worker B → PopEnd Event
inbox_of k = k.inbox

-- The inboxes of a run, as they were laid, and the columns and trails when they came back.
pub record AreBack {B : Type 0} (plan : Plan) (links : List Link) (boxes : Inboxes) (ks : List (Worker B))
    (trails : List (TrailEnd Event)) : Type 0 where
  pub laid : IsLaid (length links) boxes.capacity boxes.columns boxes.poppers
  pub count : length boxes.poppers ≡ module_count plan
  pub trails_are : grid.AreTrails (routed_columns plan links boxes) (map inbox_of ks) trails

module _ {B : Type 0} where
  pub worker_count : {BL : Type 0} (writes : B → BookTold BL) (plan : Plan) (links : ℕ) (js ks : List (Worker B)) → HaveWorked writes plan links js ks → length ks ≡ module_count plan
  worker_count writes plan links js ks h = AllZip-long (HasWorked writes) js ks h.worked ∙ h.count

  trail_count : {BL : Type 0} (writes : B → BookTold BL) (plan : Plan) (links : List Link) (boxes : Inboxes) (js ks : List (Worker B)) (trails : List (TrailEnd Event)) → HaveWorked writes plan (length links) js ks → AreBack plan links boxes ks trails → length trails ≡ module_count plan
  trail_count writes plan links boxes js ks trails h back =
      back.trails_are.count ∙ length-map ks inbox_of ∙ worker_count writes plan (length links) js ks h

  -- one trail for each module
  pub all_trails : {BL : Type 0} (writes : B → BookTold BL) (laws : OneTrailLaws) (plan : Plan) (links : List Link) (boxes : Inboxes) (js ks : List (Worker B)) (trails : List (TrailEnd Event)) → ((i : ℕ) (link : Link) → At links i link → IsLink link) → HaveWorked writes plan (length links) js ks → AreBack plan links boxes ks trails → AreTrails plan links trails
  all_trails writes laws plan links boxes js ks trails each h back = record {
    count = trail_count writes plan links boxes js ks trails h back;
    each = λ m t e.
        let inside = below_at trails m t e in
        let many = trail_count writes plan links boxes js ks trails h back in
        let lt : m < module_count plan = omega arith in
        let workers = worker_count writes plan (length links) js ks h in
        let (k, at_k) = at_below ks m (omega arith) in
        let (j, at_j) = at_below js m (omega (arith, h.count)) in
        let (p, at_p) = at_below boxes.poppers m (omega (arith, back.count)) in
        one_trail laws plan links boxes m p k.inbox t each lt back.laid at_p
        (back.trails_are.each m k.inbox t (mapped_at inbox_of ks m k at_k) e)
        (subst (λ (n : ℕ). EndsWithStops n k.inbox.popped) (h.are m j at_j).links_are (zip_at (HasWorked writes) js ks h.worked m j k at_j at_k).stops);
  }

  -- the events of each trail were served
  pub all_served : {BL : Type 0} (writes : B → BookTold BL) (law : RouteIsOfClaimed) (plan : Plan) (links : List Link) (boxes : Inboxes) (js ks : List (Worker B)) (trails : List (TrailEnd Event)) → HaveWorked writes plan (length links) js ks → AreBack plan links boxes ks trails → AreTrails plan links trails → ((i : ℕ) (link : Link) → At links i link → AllByRecursion (λ k. is_at plan.places k ≡ true) (claimed_members link.entries)) → (m : ℕ) (j k : Worker B) (t : TrailEnd Event) → slice_get js m ≡ Some j → slice_get ks m ≡ Some k → At trails m t → HasServed writes (events_of t) j k
  all_served writes law plan links boxes js ks trails h back are claimed m j k t at_j at_k e =
      let it = h.are m j at_j in
      let trail = are.each m t e in
      let popped = (back.trails_are.each m k.inbox t (mapped_at inbox_of ks m k at_k) e).popped in
      let there = trail_is_there law plan links m t trail claimed in
      served writes j k (events_of t) (zip_at (HasWorked writes) js ks h.worked m j k at_j at_k) (sym popped ∙ trail.popped)
      (subst (λ (n : ℕ). AllByRecursion (λ event. is_there n j.module.setup.places event ≡ true) (events_of t)) (sym it.links_are)
      (subst (λ (s : module_items.Setup). AllByRecursion (λ event. is_there (length links) s.places event ≡ true) (events_of t)) (sym it.setup) there))

  -- how many packets each module admitted
  pub all_admitted : {BL : Type 0} (writes : B → BookTold BL) (plan : Plan) (links : ℕ) (js ks : List (Worker B)) (trails : List (TrailEnd Event)) → HaveWorked writes plan links js ks → length trails ≡ module_count plan → ((m : ℕ) (j k : Worker B) (t : TrailEnd Event) → slice_get js m ≡ Some j → slice_get ks m ≡ Some k → At trails m t → HasServed writes (events_of t) j k) → map (λ (k : Worker B). k.module.admitted) ks ≡ map (λ (t : TrailEnd Event). admitted_count (floors_of plan) (acts_of (events_of t))) trails
  all_admitted writes plan links js ks trails h count did =
      map_beside (λ (k : Worker B). k.module.admitted) (λ (t : TrailEnd Event). admitted_count (floors_of plan) (acts_of (events_of t))) ks trails
      (worker_count writes plan links js ks h ∙ sym count)
      (λ m k t at_k e.
      let inside = below_at ks m k at_k in
      let many = worker_count writes plan links js ks h in
      let (j, at_j) = at_below js m (omega (arith, h.count)) in
      admitted_of writes plan links m j k (events_of t) (h.are m j at_j) (zip_at (HasWorked writes) js ks h.worked m j k at_j at_k) (did m j k t at_j at_k e))

  -- the tapes of the modules
  pub all_tapes : {BL : Type 0} (writes : B → BookTold BL) (plan : Plan) (links : ℕ) (js ks : List (Worker B)) (trails : List (TrailEnd Event)) → HaveWorked writes plan links js ks → ((m : ℕ) (j k : Worker B) (t : TrailEnd Event) → slice_get js m ≡ Some j → slice_get ks m ≡ Some k → At trails m t → HasServed writes (events_of t) j k) → (m : ℕ) (t : TrailEnd Event) (tape : List (Option Verdict)) → At trails m t → At (map (λ (k : Worker B). k.tape) ks) m tape → IsModuleTape (setup_at plan m) (events_of t) plan.entries tape
  all_tapes writes plan links js ks trails h did m t tape e et =
      let (k, at_k, is_k) = unmapped (λ (k : Worker B). k.tape) ks m tape et in
      let inside = below_at ks m k at_k in
      let many = worker_count writes plan links js ks h in
      let (j, at_j) = at_below js m (omega (arith, h.count)) in
      subst (IsModuleTape (setup_at plan m) (events_of t) plan.entries) is_k
      (tape_is writes plan links m j k (events_of t) (h.are m j at_j) (zip_at (HasWorked writes) js ks h.worked m j k at_j at_k) (did m j k t at_j at_k e))

  -- the books
  pub all_books : {BL : Type 0} (writes : B → BookTold BL) (plan : Plan) (links : ℕ) (js ks : List (Worker B)) (trails : List (TrailEnd Event)) (failed : Bool) → HaveWorked writes plan links js ks → ((m : ℕ) (j k : Worker B) (t : TrailEnd Event) → slice_get js m ≡ Some j → slice_get ks m ≡ Some k → At trails m t → HasServed writes (events_of t) j k) → ((m : ℕ) (k : Worker B) → slice_get ks m ≡ Some k → k.book_failed ≡ true → failed ≡ true) → (m : ℕ) (t : TrailEnd Event) (before after : BookTold BL) → At trails m t → At (map (book_tells writes) js) m before → At (map (book_tells writes) ks) m after → IsWritten failed before (book_text (head_at plan m) (records_of (setup_at plan m) (events_of t))) after
  all_books writes plan links js ks trails failed h did flags m t before after e eb ea =
      let (j, at_j, is_j) = unmapped (book_tells writes) js m before eb in
      let (k, at_k, is_k) = unmapped (book_tells writes) ks m after ea in
      let text = book_text (head_at plan m) (records_of (setup_at plan m) (events_of t)) in
      subst (λ b. IsWritten failed b text after) is_j
      (subst (λ a. IsWritten failed (book_tells writes j) text a) is_k
      (book_is writes plan links m j k (events_of t) failed (h.are m j at_j) (did m j k t at_j at_k e) (flags m k at_k)))

  -- each is a book of the records of its trail, where it tells its bytes
  pub all_spelled : {BL : Type 0} (writes : B → BookTold BL) (plan : Plan) (links : ℕ) (js ks : List (Worker B)) (trails : List (TrailEnd Event)) → HaveWorked writes plan links js ks → ((m : ℕ) (j k : Worker B) (t : TrailEnd Event) → slice_get js m ≡ Some j → slice_get ks m ≡ Some k → At trails m t → HasServed writes (events_of t) j k) → (m : ℕ) (t : TrailEnd Event) (after : BookTold BL) (bytes : List ℕ) → At trails m t → At (map (book_tells writes) ks) m after → after.written ≡ Some bytes → IsBookText (head_at plan m) (records_of (setup_at plan m) (events_of t))
  all_spelled writes plan links js ks trails h did m t after bytes e ea told =
      let (k, at_k, is_k) = unmapped (book_tells writes) ks m after ea in
      let inside = below_at ks m k at_k in
      let many = worker_count writes plan links js ks h in
      let (j, at_j) = at_below js m (omega (arith, h.count)) in
      spelled_is writes plan links m j k (events_of t) bytes (h.are m j at_j) (did m j k t at_j at_k e)
      (ap (λ b. b.written) is_k ∙ told)

-- The queues of all modules, patient runs, and the causes of what went wrong.

module _ {B : Type 0} where
  append_all : (P : B → Type 0) (xs ys : List B) → AllByRecursion P xs → AllByRecursion P ys → AllByRecursion P (xs ++ ys)
  append_all P [] ys h g = g
  append_all P (x ∷ xs) ys h g = (h.0, append_all P xs ys h.1 g)

module _ {A B : Type 0} where
  flat_all : (P : B → Type 0) (f : A → List B) (xs : List A) → ((x : A) → AllByRecursion P (f x)) → AllByRecursion P (flat_map f xs)
  flat_all P f [] h = tt
  flat_all P f (x ∷ xs) h = append_all P (f x) (flat_map f xs) (h x) (flat_all P f xs h)

-- the items that a module gives are at its places
pub given_placed : ItemsAreAtPlaces → (setup : module_items.Setup) (events : List Event) → AllByRecursion (λ (item : Item). item.member.place < setup.places) (items_given setup events)
unfolding items_given
given_placed law setup events =
    flat_all (λ (item : Item). item.member.place < setup.places) (items_at setup events) (range_with_len 0 (length events))
    (λ n. recursion_from_All (λ (item : Item). item.member.place < setup.places) (items_at setup events n) (law setup events n))

-- The queues of a module came back, each drained.
pub record QueuesBack {B : Type 0} (plan : Plan) (k : Worker B) (rows : Rows) : Type 0 where
  pub trails : AreTrailsOfOnes k.offers.queues.items rows.poppers rows.trails
  pub count : length rows.poppers ≡ plan.places
  pub drained : (q : ℕ) (t : TrailEnd Item) → At rows.trails q t → t.popped ≡ items_of t.order

module _ {B : Type 0} where
  -- the queues of all modules
  pub all_queues : {BL : Type 0} (writes : B → BookTold BL) (law : RowsGrow Item) (placed : ItemsAreAtPlaces) (plan : Plan) (links : ℕ) (js ks : List (Worker B)) (rows : List Rows) (trails : List (TrailEnd Event)) → HaveWorked writes plan links js ks → ((m : ℕ) (j k : Worker B) (t : TrailEnd Event) → slice_get js m ≡ Some j → slice_get ks m ≡ Some k → At trails m t → HasServed writes (events_of t) j k) → ((m : ℕ) (k : Worker B) (r : Rows) → slice_get ks m ≡ Some k → At rows m r → QueuesBack plan k r) → length js ≡ length ks → (m : ℕ) (t : TrailEnd Event) (queues : List (TrailEnd Item)) (missed : ℕ) → At trails m t → At (map (λ (r : Rows). r.trails) rows) m queues → At (map (λ (k : Worker B). k.offers.missed) ks) m missed → Carry (events_of t) (record { setup = setup_at plan m; patient = plan.patient; queues = queues; missed = missed })
  all_queues writes law placed plan links js ks rows trails h did back same m t queues missed e eq em =
      let (r, at_r, is_r) = unmapped (λ (r : Rows). r.trails) rows m queues eq in
      let (k, at_k, is_k) = unmapped (λ (k : Worker B). k.offers.missed) ks m missed em in
      let inside = below_at ks m k at_k in
      let (j, at_j) = at_below js m (omega arith) in
      let b = back m k r at_k at_r in
      let found = carries writes law plan links m j k (events_of t) r (h.are m j at_j) (did m j k t at_j at_k e) b.trails b.count b.drained (given_placed placed (setup_at plan m) (events_of t)) in
      subst (λ (n : ℕ). Carry (events_of t) (record { setup = setup_at plan m; patient = plan.patient; queues = queues; missed = n })) is_k
      (subst (λ (qs : List (TrailEnd Item)). Carry (events_of t) (record { setup = setup_at plan m; patient = plan.patient; queues = qs; missed = k.offers.missed })) is_r found)

abbrev one_if : Bool → ℕ
one_if b = cond b 1 0

abbrev missed_weight : Try → ℕ
missed_weight t = one_if (not t.queued)

queued_step : (t : Try) (b : Bool) → t.queued ≡ b → (t.queued ≡ false → ⊥) → missed_weight t ≡ 0
queued_step t true e h = ap (λ (b : Bool). one_if (not b)) e
queued_step t false e h = absurd (h e)

-- nothing is missed where no item may be
none_missed : (tries : List Try) → ((n : ℕ) (t : Try) → slice_get tries n ≡ Some t → t.queued ≡ false → ⊥) → count_missed tries ≡ 0
none_missed [] h = refl
none_missed (t ∷ tries) h =
    let rest = none_missed tries (λ n u e f. h (suc n) u e f) in
    let here = queued_step t t.queued refl (h 0 t refl) in
    let both = sum_by-cons (λ (t : Try). cond (not t.queued) 1 0) t tries in omega arith

-- a patient module leaves nothing out
pub patient_misses_none : (events : List Event) (c : Carriers) → Carry events c → c.patient ≡ true → c.missed ≡ 0
patient_misses_none events c h asked =
    h.missed ∙ ap (λ (n : ℕ). min n (2 ^ 64 - 1)) (none_missed h.tries (λ n t e f.
    let wrong : true ≡ false = sym asked ∙ (h.left_out n t e f).impatient in cc))

pub or_later : (a b : Bool) → b ≡ true → a || b ≡ true
or_later true b h = refl
or_later false b h = h

module _ {A : Type 0} where
  any_at_step : (p : A → Bool) (x : A) (xs : List A) (b : Bool) → p x ≡ b → p x || list_any p xs ≡ true → (list_any p xs ≡ true → (i : ℕ) × (y : A) × (slice_get xs i ≡ Some y) × (p y ≡ true)) → (i : ℕ) × (y : A) × (slice_get (x ∷ xs) i ≡ Some y) × (p y ≡ true)
  any_at_step p x xs true e h later = (0, x, refl, e)
  any_at_step p x xs false e h later =
      let (i, y, at, is) = later (sym (ap (λ (b : Bool). b || list_any p xs) e) ∙ h) in (suc i, y, at, is)

  -- where a test holds of some item, that stands somewhere
  pub any_at : (p : A → Bool) (xs : List A) → list_any p xs ≡ true → (i : ℕ) × (x : A) × (slice_get xs i ≡ Some x) × (p x ≡ true)
  any_at p [] h = absurd cc
  any_at p (x ∷ xs) h = any_at_step p x xs (p x) refl h (any_at p xs)

  -- and the other way round
  pub at_any : (p : A → Bool) (xs : List A) (i : ℕ) (x : A) → slice_get xs i ≡ Some x → p x ≡ true → list_any p xs ≡ true
  at_any p [] i x e h = absurd (none-some x e)
  at_any p (y ∷ xs) zero x e h = ap (λ (b : Bool). b || list_any p xs) (ap p (same_Some y x e) ∙ h)
  at_any p (y ∷ xs) (suc i) x e h = or_later (p y) (list_any p xs) (at_any p xs i x e h)

abbrev pub lost_of : {E B : Type 0} → Receiver E B → Bool
lost_of k = k.lost

module _ {E B : Type 0} where
  -- a run is lost exactly where some link's last 16 entries are faults
  pub lost_where : {EL BL : Type 0} (hears : E → EarTold EL) (writes : B → BookTold BL) (js ks : List (Receiver E B)) (links : List Link) → AllZip3 (Came hears writes) js ks links → IsTrue (list_any lost_of ks) ↔ SomeLost links
  lost_where hears writes js ks links h = let lens = zip3_length (Came hears writes) js ks links h in (
    λ asked.
        let (i, k, at_k, lost) = any_at lost_of ks asked in
        let inside = below_at ks i k at_k in
        let (j, at_j) = at_below js i (omega (arith, lens.0)) in
        let (link, at_l) = at_below links i (omega (arith, lens.0, lens.1)) in
        record { number = i; link = link; there = at_l; faults = (zip3_at (Came hears writes) js ks links h i j k link at_j at_k at_l).lost.0 lost },
    λ some.
        let inside = below_at links some.number some.link some.there in
        let (j, at_j) = at_below js some.number (omega (arith, lens.1)) in
        let (k, at_k) = at_below ks some.number (omega (arith, lens.0, lens.1)) in
        at_any lost_of ks some.number k at_k ((zip3_at (Came hears writes) js ks links h some.number j k some.link at_j at_k some.there).lost.1 some.faults),
  )

  -- and only where the count of some ear rose
  pub lost_only_where : {EL BL : Type 0} (hears : E → EarTold EL) (writes : B → BookTold BL) (js ks : List (Receiver E B)) (heards : List (List Heard)) → AllZip3 (HasHeardAll hears writes) js ks heards → IsTrue (list_any lost_of ks) → SomeRose (λ t. t.faults) (map (ear_tells hears) js) (map (ear_tells hears) ks)
  lost_only_where hears writes js ks heards h asked =
      let lens = zip3_length (HasHeardAll hears writes) js ks heards h in
      let (i, k, at_k, lost) = any_at lost_of ks asked in
      let inside = below_at ks i k at_k in
      let (j, at_j) = at_below js i (omega (arith, lens.0)) in
      let (heard, at_h) = at_below heards i (omega (arith, lens.0, lens.1)) in record {
        number = i;
        was = ear_tells hears j;
        is = ear_tells hears k;
        was_there = mapped_at (ear_tells hears) js i j at_j;
        is_there = mapped_at (ear_tells hears) ks i k at_k;
        rose = (zip3_at (HasHeardAll hears writes) js ks heards h i j k heard at_j at_k at_h).lost lost;
      }

-- Where a trace or a book failed, the count of one of them rose.

abbrev pub trace_failed_of : {E B : Type 0} → Receiver E B → Bool
trace_failed_of k = k.trace_failed

abbrev pub book_failed_of : {B : Type 0} → Worker B → Bool
book_failed_of k = k.book_failed

module _ {E B : Type 0} where
  -- a trace failed only where the count of some trace rose
  pub trace_failed_where : {EL BL : Type 0} (hears : E → EarTold EL) (writes : B → BookTold BL) (js ks : List (Receiver E B)) (heards : List (List Heard)) → AllZip3 (HasHeardAll hears writes) js ks heards → list_any trace_failed_of ks ≡ true → SomeRose (λ t. t.faults) (map (trace_tells writes) js) (map (trace_tells writes) ks)
  trace_failed_where hears writes js ks heards h failed =
      let lens = zip3_length (HasHeardAll hears writes) js ks heards h in
      let (i, k, at_k, here) = any_at trace_failed_of ks failed in
      let inside = below_at ks i k at_k in
      let (j, at_j) = at_below js i (omega (arith, lens.0)) in
      let (heard, at_h) = at_below heards i (omega (arith, lens.0, lens.1)) in
      let cut = (zip3_at (HasHeardAll hears writes) js ks heards h i j k heard at_j at_k at_h).trace.cut here in record {
        number = i;
        was = trace_tells writes j;
        is = trace_tells writes k;
        was_there = mapped_at (trace_tells writes) js i j at_j;
        is_there = mapped_at (trace_tells writes) ks i k at_k;
        rose = cut.2;
      }

module _ {B : Type 0} where
  -- and a book only where that of some book did
  pub book_failed_where : {BL : Type 0} (writes : B → BookTold BL) (js ks : List (Worker B)) → AllZip (HasWorked writes) js ks → list_any book_failed_of ks ≡ true → SomeRose (λ t. t.faults) (map (book_tells writes) js) (map (book_tells writes) ks)
  book_failed_where writes js ks h failed =
      let (i, k, at_k, here) = any_at book_failed_of ks failed in
      let inside = below_at ks i k at_k in
      let many = AllZip-long (HasWorked writes) js ks h in
      let (j, at_j) = at_below js i (omega (arith, many)) in
      let cut = (zip_at (HasWorked writes) js ks h i j k at_j at_k).served.booked.cut here in record {
        number = i;
        was = book_tells writes j;
        is = book_tells writes k;
        was_there = mapped_at (book_tells writes) js i j at_j;
        is_there = mapped_at (book_tells writes) ks i k at_k;
        rose = cut.2;
      }

module _ {E B : Type 0} where
  -- so where one of either failed, the count of one rose
  pub failed_only_where : {EL BL : Type 0} (hears : E → EarTold EL) (writes : B → BookTold BL) (js ks : List (Receiver E B)) (heards : List (List Heard)) (ws vs : List (Worker B)) → AllZip3 (HasHeardAll hears writes) js ks heards → AllZip (HasWorked writes) ws vs → list_any trace_failed_of ks || list_any book_failed_of vs ≡ true → SomeRose (λ t. t.faults) (map (trace_tells writes) js) (map (trace_tells writes) ks) ⊎ SomeRose (λ t. t.faults) (map (book_tells writes) ws) (map (book_tells writes) vs)
  failed_only_where hears writes js ks heards ws vs h worked failed =
      elim (or_cases (list_any trace_failed_of ks) (list_any book_failed_of vs) failed) [
        | inl traces ↦ inl (trace_failed_where hears writes js ks heards h traces)
        | inr books ↦ inr (book_failed_where writes ws vs worked books)
      ]
