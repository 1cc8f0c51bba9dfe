-- What the jobs of a run give back can be finished: each lane has all its ends again.
use Rattle.std.proofs.Common.{◌≡◌, ℕ, zero, suc, List, [], ◌∷◌, map, length, Some, sym, subst, ap, ◌∙◌, arith, ◌+◌, ◌<◌, ◌++◌, All, ◌≤◌, vec_len, vec_capacity, refl}
use Rattle.std.specs.Prelude.{slice_get, replicate, Vec}
use Rattle.std.specs.List.{AllZip, AllByRecursion}
use Rattle.std.proofs.lemmas.List.{length-map}
use Rattle.std.proofs.lemmas.Slice.Zip.{AllZip-long}
use Rattle.m17_ports.specs.Book.{BookTold}
use Rattle.m17_ports.specs.Ear.{EarTold}
use Rattle.m17_control.specs.declared.event.Event.{Event}
use Rattle.m17_control.specs.declared.item.Item.{Item}
use Rattle.m17_control.specs.declared.item.Direct.{Direct}
use Rattle.m17_values.specs.declared.member.Member.{Member}
use Rattle.m17_lane.specs.Ends.{PushEnd, PopEnd, TrailEnd}
use Rattle.m17_lane.specs.Rows.{as_new, as_new_popper, IsSameRow, IsSamePopRow}
use Rattle.m17_lane.specs.RowsLaws.{RowsPush, RowsGrow}
use Rattle.m17_lane.specs.Columns.{IsGrid}
use Rattle.m17_lane.specs.GridLaws.{GridsStand}
use Rattle.m17_receiver.specs.declared.receiver.Receiver.{Receiver}
use Rattle.m17_receiver.specs.ReceiverDid.{ReceiverDid}
use Rattle.m17_worker.specs.declared.worker.Worker.{Worker}
use Rattle.m17_worker.specs.Offers.{queued_for, missed_for}
use Rattle.m17_worker.specs.WorkerDid.{HasWorked}
use Rattle.m17_sender.specs.declared.sender.Sender.{Sender}
use Rattle.m17_sender.specs.Places.{queues_of}
use Rattle.m17_sender.specs.Sent.{LanesUsed}
use Rattle.m17_sender.specs.Acts.{Act, notes_of}
use Rattle.m17_reflect.specs.Ends.{AreLaid, ends_of}
use Rattle.m17_reflect.proofs.LinksHeard.{column_of, all_at}
use Rattle.m17_reflect.proofs.ModulesWorked.{inbox_of, QueuesBack, Rows, map_beside}
use Rattle.m17_reflect.proofs.OrdersObeyed.{zip_parts, zip_same, map_twice, line_back, one_back, CanFinish, CanFinishOne, zip_from}
use Rattle.m17_reflect.proofs.PlaceByPlace.{at_below, below_at, zip_at, unmapped, mapped_at}
use Rattle.std.proofs.lemmas.List.Elements.{All-from_recursion, recursion_from_All}
use Rattle.atomic_table.specs.Seated.{TableId}
use Rattle.m17_roll.specs.Seat.{RollView, AreNew, IsSameSeat, IsSeatOf, new_seat}
use Rattle.m17_roll.specs.Closing.{AreAll}
use Rattle.m17_reflect.proofs.RollSeats.{seat_of, TookNone}
use Rattle.m17_reflect.proofs.GivenBack.{worker_seat, GaveNone}
use Rattle.m17_reflect.specs.Rooms.{IsRoom, AreRooms}
use Rattle.std.proofs.lemmas.Option.{none-some, same_Some}
use Rattle.m17_reflect.specs.Left.{drained}
use Rattle.m17_reflect.specs.Rows.{AreRowsOfTrails, AreOfOnes}
use Rattle.m17_plan.specs.declared.plan.Plan.{Plan}
use Rattle.m17_reflect.specs.Links.{At}
use Rattle.m17_reflect.proofs.LanesDrained.{row_drained, queues_drained}

-- The laws that this rests on.
pub record EndLaws : Type 0 where
  pub grids : GridsStand Event
  pub grow : RowsGrow Item
  pub notes : RowsPush Member

abbrev pub queues_at : {B : Type 0} → Worker B → List (PushEnd Item)
queues_at w = w.offers.queues.items

abbrev pub door_of : {E B : Type 0} → Receiver E B → PushEnd Direct
door_of j = j.door

abbrev pub notes_at : {E B : Type 0} → Receiver E B → PopEnd Member
notes_at j = j.notes

-- The jobs of a run, before they went and after.
pub record HaveGone {E M B EL BL : Type 0} (hears : E → EarTold EL) (writes : B → BookTold BL) (js ks : List (Receiver E B))
    (ws vs : List (Worker B)) (s t : Sender M) : Type 0 where
  pub received : AllZip (ReceiverDid hears writes) js ks
  pub worked : AllZip (HasWorked writes) ws vs
  pub acts : List Act
  pub sent : LanesUsed s t acts

row_same : (before after : List (List (PopEnd Item))) → map (map as_new_popper) after ≡ map (map as_new_popper) before → (m : ℕ) (row row' : List (PopEnd Item)) → slice_get before m ≡ Some row → slice_get after m ≡ Some row' → IsSamePopRow row row'
row_same [] [] e m row row' at at' = absurd cc
row_same [] (y ∷ after) e m row row' at at' = absurd cc
row_same (x ∷ before) [] e m row row' at at' = absurd cc
row_same (x ∷ before) (y ∷ after) e zero row row' at at' =
    let a : x ≡ row = cc in let b : y ≡ row' = cc in
    let here : map as_new_popper y ≡ map as_new_popper x = cc in
    ap (map as_new_popper) (sym b) ∙ here ∙ ap (map as_new_popper) a
row_same (x ∷ before) (y ∷ after) e (suc m) row row' at at' =
    let rest : map (map as_new_popper) after ≡ map (map as_new_popper) before = cc in row_same before after rest m row row' at at'

module _ {E M B : Type 0} where
  -- the inboxes
  pub inboxes_back : {EL BL : Type 0} (hears : E → EarTold EL) (writes : B → BookTold BL) → EndLaws → (js ks : List (Receiver E B)) (ws vs : List (Worker B)) (s t : Sender M) (modules places : ℕ) → AreLaid (length js) modules places (ends_of js ws s) → HaveGone hears writes js ks ws vs s t → IsGrid (map column_of ks) (map inbox_of vs)
  inboxes_back hears writes laws js ks ws vs s t modules places laid h =
      laws.grids.stays (map column_of js) (map column_of ks) (map inbox_of ws) (map inbox_of vs)
      (zip_parts (ReceiverDid hears writes) IsSameRow column_of (λ j k did. did.same.lanes.inboxes) js ks h.received)
      (map_twice inbox_of as_new_popper vs
      ∙ zip_same (HasWorked writes) (λ w. as_new_popper w.inbox) (λ j k did. ap as_new_popper did.same.inbox) ws vs h.worked
      ∙ sym (map_twice inbox_of as_new_popper ws))
      laid.inboxes.grid

  -- the queues, row by row
  pub queues_back : {EL BL : Type 0} (hears : E → EarTold EL) (writes : B → BookTold BL) → EndLaws → (js ks : List (Receiver E B)) (ws vs : List (Worker B)) (s t : Sender M) (modules places : ℕ) → AreLaid (length js) modules places (ends_of js ws s) → HaveGone hears writes js ks ws vs s t → AllZip CanFinish (map queues_at vs) (queues_of t)
  queues_back hears writes laws js ks ws vs s t modules places laid h =
      let same = h.sent.same_queues in
      let many : length (queues_of t) ≡ length (queues_of s) = sym (length-map (queues_of t) (map as_new_popper)) ∙ ap length same ∙ length-map (queues_of s) (map as_new_popper) in
      let workers = AllZip-long (HasWorked writes) ws vs h.worked in
      let counts = laid.queues.count in
      zip_from CanFinish (map queues_at vs) (queues_of t)
      (omega (arith, many, workers, counts.0, counts.1, length-map vs queues_at, length-map ws queues_at))
      (λ m row head at_row at_head.
      let (v, at_v, is_v) = unmapped queues_at vs m row at_row in
      let inside = below_at vs m v at_v in
      let (w, at_w) = at_below ws m (omega (arith, workers)) in
      let (first, at_first) = at_below (queues_of s) m (omega (arith, counts.0, counts.1, workers, length-map ws queues_at)) in
      let made = laid.queues.each m (queues_at w) first (mapped_at queues_at ws m w at_w) at_first in
      let tried = (zip_at (HasWorked writes) ws vs h.worked m w v at_w at_v).served.offered in
      let kept : IsSameRow (queues_at w) (queues_at v) = ap (map as_new) tried.tried.queues ∙ laws.grow.kept (queued_for tried.tries) (missed_for tried.tries) 0 (queues_at w) in
      subst (λ (r : List (PushEnd Item)). CanFinish r head) is_v
      (line_back 64 (queues_at w) (queues_at v) first head made.0 kept (row_same (queues_of s) (queues_of t) same m first head at_first at_head)))

  -- the door
  pub door_back : {EL BL : Type 0} (hears : E → EarTold EL) (writes : B → BookTold BL) (js ks : List (Receiver E B)) (ws vs : List (Worker B)) (s t : Sender M) (modules places : ℕ) → AreLaid (length js) modules places (ends_of js ws s) → HaveGone hears writes js ks ws vs s t → CanFinishOne (map door_of ks) t.door
  door_back hears writes js ks ws vs s t modules places laid h =
      one_back 256 (length js) (map door_of js) (map door_of ks) s.door t.door laid.door.0 laid.door.1
      (map_twice door_of as_new ks ∙ zip_same (ReceiverDid hears writes) (λ j. as_new j.door) (λ j k did. did.same.lanes.door) js ks h.received ∙ sym (map_twice door_of as_new js))
      (ap as_new_popper h.sent.same_door)

  -- the notes
  pub notes_back : {EL BL : Type 0} (hears : E → EarTold EL) (writes : B → BookTold BL) → EndLaws → (js ks : List (Receiver E B)) (ws vs : List (Worker B)) (s t : Sender M) (modules places : ℕ) → AreLaid (length js) modules places (ends_of js ws s) → HaveGone hears writes js ks ws vs s t → CanFinish t.notes.items (map notes_at ks)
  notes_back hears writes laws js ks ws vs s t modules places laid h =
      line_back 512 s.notes.items t.notes.items (map notes_at js) (map notes_at ks) laid.notes.0
      (ap (map as_new) h.sent.notes ∙ laws.notes.kept (λ i. notes_of i h.acts) 0 s.notes.items)
      (map_twice notes_at as_new_popper ks ∙ zip_same (ReceiverDid hears writes) (λ j. as_new_popper j.notes) (λ j k did. ap as_new_popper did.same.notes) js ks h.received ∙ sym (map_twice notes_at as_new_popper js))

-- The seats that the jobs give back are all seats of one roll, and no worker claimed a place or refused anyone.

module _ {A : Type 0} where
  zip_append : (P : A → A → Type 0) (xs ys us vs : List A) → AllZip P xs ys → AllZip P us vs → AllZip P (xs ++ us) (ys ++ vs)
  zip_append P [] [] us vs h g = g
  zip_append P [] (y ∷ ys) us vs h g = absurd h
  zip_append P (x ∷ xs) [] us vs h g = absurd h
  zip_append P (x ∷ xs) (y ∷ ys) us vs h g = (h.0, zip_append P xs ys us vs h.1 g)

  long_append : (xs ys : List A) → length (xs ++ ys) ≡ length xs + length ys
  long_append [] ys = omega arith
  long_append (x ∷ xs) ys = let rest = long_append xs ys in omega (arith, rest)

both : {a b c d : ℕ} → a ≡ b → c ≡ d → a + c ≡ b + d
both e f = omega (arith, e, f)

seat_still : (roll : TableId) (seats places : ℕ) (a b : RollView) → a ≡ new_seat roll seats places → IsSameSeat a b → IsSeatOf roll seats places b
seat_still roll seats places a b e h = (
  h.0 ∙ ap (λ (s : RollView). s.roll) e,
  h.1 ∙ ap (λ (s : RollView). s.seats) e,
  h.2 ∙ ap (λ (s : RollView). s.places) e,
)

still_all : (roll : TableId) (seats places n : ℕ) (before after : List RollView) → before ≡ replicate n (new_seat roll seats places) → AllZip IsSameSeat before after → AllByRecursion (IsSeatOf roll seats places) after
still_all roll seats places n [] [] e h = tt
still_all roll seats places n [] (b ∷ after) e h = absurd h
still_all roll seats places n (a ∷ before) [] e h = absurd h
still_all roll seats places zero (a ∷ before) (b ∷ after) e h = absurd cc
still_all roll seats places (suc n) (a ∷ before) (b ∷ after) e h =
    let here : a ≡ new_seat roll seats places = cc in
    let rest : before ≡ replicate n (new_seat roll seats places) = cc in
    (seat_still roll seats places a b here h.0, still_all roll seats places n before after rest h.1)

new_took : (roll : TableId) (seats places n : ℕ) (before : List RollView) → before ≡ replicate n (new_seat roll seats places) → AllByRecursion TookNone before
new_took roll seats places n [] e = tt
new_took roll seats places zero (a ∷ before) e = absurd cc
new_took roll seats places (suc n) (a ∷ before) e =
    let here : a ≡ new_seat roll seats places = cc in
    let rest : before ≡ replicate n (new_seat roll seats places) = cc in
    ((ap (λ (s : RollView). s.claimed) here, ap (λ (s : RollView). s.refused) here), new_took roll seats places n before rest)

new_gave : (roll : TableId) (seats places n : ℕ) (before : List RollView) → before ≡ replicate n (new_seat roll seats places) → AllByRecursion GaveNone before
new_gave roll seats places n [] e = tt
new_gave roll seats places zero (a ∷ before) e = absurd cc
new_gave roll seats places (suc n) (a ∷ before) e =
    let here : a ≡ new_seat roll seats places = cc in
    let rest : before ≡ replicate n (new_seat roll seats places) = cc in
    (ap (λ (s : RollView). s.given) here, new_gave roll seats places n before rest)

behind : (P : RollView → Type 0) (xs ys : List RollView) → AllByRecursion P (xs ++ ys) → AllByRecursion P ys
behind P [] ys h = h
behind P (x ∷ xs) ys h = behind P xs ys h.1

module _ {E B : Type 0} where
  -- all seats of the roll
  pub seats_back : {EL BL : Type 0} (hears : E → EarTold EL) (writes : B → BookTold BL) (js ks : List (Receiver E B)) (ws vs : List (Worker B)) (places : ℕ) → 0 < length js → AreNew places (length js + length ws) (map seat_of js ++ map worker_seat ws) → AllZip (ReceiverDid hears writes) js ks → AllZip (HasWorked writes) ws vs → (roll : TableId) × AreAll roll places (map seat_of ks ++ map worker_seat vs)
  seats_back hears writes js ks ws vs places some new received worked =
      let (roll, are) = new in
      let zipped = zip_append IsSameSeat (map seat_of js) (map seat_of ks) (map worker_seat ws) (map worker_seat vs)
      (zip_parts (ReceiverDid hears writes) IsSameSeat seat_of (λ j k did. did.same.seat) js ks received)
      (zip_parts (HasWorked writes) IsSameSeat worker_seat (λ j k did. did.served.gave_back.seat) ws vs worked) in
      let first = AllZip-long (ReceiverDid hears writes) js ks received in
      let second = AllZip-long (HasWorked writes) ws vs worked in
      let many : length (map seat_of ks ++ map worker_seat vs) ≡ length js + length ws =
      long_append (map seat_of ks) (map worker_seat vs) ∙ both (length-map ks seat_of ∙ first) (length-map vs worker_seat ∙ second) in (
        roll,
        record {
          some_seat = omega (arith, many);
          each = subst (λ (n : ℕ). All (IsSeatOf roll n places) (map seat_of ks ++ map worker_seat vs)) (sym many)
              (All-from_recursion (IsSeatOf roll (length js + length ws) places) (map seat_of ks ++ map worker_seat vs)
              (still_all roll (length js + length ws) places (length js + length ws) (map seat_of js ++ map worker_seat ws) (map seat_of ks ++ map worker_seat vs) are zipped));
        },
      )

module _ {B : Type 0} where
  same_took : {BL : Type 0} (writes : B → BookTold BL) (ws vs : List (Worker B)) → AllZip (HasWorked writes) ws vs → AllByRecursion TookNone (map worker_seat ws) → AllByRecursion TookNone (map worker_seat vs)
  same_took writes [] [] h none = tt
  same_took writes [] (v ∷ vs) h none = absurd h
  same_took writes (w ∷ ws) [] h none = absurd h
  same_took writes (w ∷ ws) (v ∷ vs) h none = ((h.0.served.gave_back.lists.0 ∙ none.0.0, h.0.served.gave_back.lists.2 ∙ none.0.1), same_took writes ws vs h.1 none.1)

  -- no worker claimed a place or refused anyone
  pub none_took : {BL : Type 0} (writes : B → BookTold BL) (others : List RollView) (ws vs : List (Worker B)) (places seats : ℕ) → AreNew places seats (others ++ map worker_seat ws) → AllZip (HasWorked writes) ws vs → AllByRecursion TookNone (map worker_seat vs)
  none_took writes others ws vs places seats new worked =
      let (roll, are) = new in
      same_took writes ws vs worked
      (behind TookNone others (map worker_seat ws) (new_took roll seats places seats (others ++ map worker_seat ws) are))

  -- no worker has given a place back before it has begun
  pub none_gave : (others : List RollView) (ws : List (Worker B)) (places seats : ℕ) → AreNew places seats (others ++ map worker_seat ws) → AllByRecursion GaveNone (map worker_seat ws)
  none_gave others ws places seats new =
      let (roll, are) = new in
      behind GaveNone others (map worker_seat ws) (new_gave roll seats places seats (others ++ map worker_seat ws) are)

-- There is room for what jobs are taken apart into, and for the trails of their lanes.

module _ {X Y Z : Type 0} where
  pub shells_ready : (rows count n : ℕ) (vs : Vec (Vec X Y) Z) → AreRooms rows count vs → n ≡ count → All (λ shell. (shell.items ≡ []) × (n ≤ vec_capacity shell)) vs.items
  shells_ready rows count n vs h e = subst (λ (k : ℕ). All (λ shell. (shell.items ≡ []) × (k ≤ vec_capacity shell)) vs.items) (sym e) h.each

module _ {X Y Z V : Type 0} where
  pub rows_ready : (rows count : ℕ) (qs : List (Vec V Y)) (vs : Vec (Vec X Y) Z) → AreRooms rows count vs → length qs ≡ rows → ((m : ℕ) (q : Vec V Y) → slice_get qs m ≡ Some q → vec_len q ≤ count) → AllZip (λ row room. (room.items ≡ []) × (vec_len row ≤ vec_capacity room)) qs vs.items
  rows_ready rows count qs vs h long fits =
      zip_from (λ row room. (room.items ≡ []) × (vec_len row ≤ vec_capacity room)) qs vs.items
      (let many = h.number in let ok = vs.ok.0 in omega (arith, long, many, ok))
      (λ m q room at_q at_room.
      let is = all_at (IsRoom count) vs.items (recursion_from_All (IsRoom count) vs.items h.each) m room at_room in
      let fit = fits m q at_q in (is.0, omega (arith, fit, is.1)))

-- The queues of all modules, finished and drained, as the rows that the headline speaks of.

-- one module's queues: the sender's ends as if each had popped all, and the drained trails
abbrev pub row_made : List (PopEnd Item) → List (TrailEnd Item) → Rows
row_made head row = record { pushers = []; poppers = row_drained row head; trails = map drained row }

abbrev pub rows_made : List (List (PopEnd Item)) → List (List (TrailEnd Item)) → List Rows
rows_made [] rows = []
rows_made (head ∷ heads) [] = []
rows_made (head ∷ heads) (row ∷ rows) = row_made head row ∷ rows_made heads rows

pub rows_count : (heads : List (List (PopEnd Item))) (rows : List (List (TrailEnd Item))) → length rows ≡ length heads → length (rows_made heads rows) ≡ length heads
rows_count [] rows e = refl
rows_count (head ∷ heads) [] e = absurd (omega arith)
rows_count (head ∷ heads) (row ∷ rows) e = ap suc (rows_count heads rows (omega arith))

pub rows_trails : (heads : List (List (PopEnd Item))) (rows : List (List (TrailEnd Item))) → length rows ≡ length heads → map (λ (r : Rows). r.trails) (rows_made heads rows) ≡ map (map drained) rows
rows_trails [] [] e = refl
rows_trails [] (row ∷ rows) e = absurd (omega arith)
rows_trails (head ∷ heads) [] e = absurd (omega arith)
rows_trails (head ∷ heads) (row ∷ rows) e = ap (λ (l : List (List (TrailEnd Item))). map drained row ∷ l) (rows_trails heads rows (omega arith))

-- A row, with what it was made of.
pub record MadeOf (heads : List (List (PopEnd Item))) (rows : List (List (TrailEnd Item))) (m : ℕ) (r : Rows)
    : Type 0 where
  pub head : List (PopEnd Item)
  pub row : List (TrailEnd Item)
  pub head_there : slice_get heads m ≡ Some head
  pub row_there : slice_get rows m ≡ Some row
  pub is : row_made head row ≡ r

pub row_at : (heads : List (List (PopEnd Item))) (rows : List (List (TrailEnd Item))) (m : ℕ) (r : Rows) → At (rows_made heads rows) m r → MadeOf heads rows m r
row_at [] rows m r e = absurd (none-some r e)
row_at (head ∷ heads) [] m r e = absurd (none-some r e)
row_at (head ∷ heads) (row ∷ rows) zero r e =
    record { head = head; row = row; head_there = refl; row_there = refl; is = same_Some (row_made head row) r e }
row_at (head ∷ heads) (row ∷ rows) (suc m) r e =
    let it = row_at heads rows m r e in
    record { head = it.head; row = it.row; head_there = it.head_there; row_there = it.row_there; is = it.is }

module _ {B : Type 0} where
  -- the queues of each module came back drained
  pub rows_back : (plan : Plan) (vs : List (Worker B)) (heads : List (List (PopEnd Item))) (rows : List (List (TrailEnd Item))) → AreRowsOfTrails (map queues_at vs) heads rows → ((m : ℕ) (head : List (PopEnd Item)) → slice_get heads m ≡ Some head → length head ≡ plan.places) → (m : ℕ) (v : Worker B) (r : Rows) → slice_get vs m ≡ Some v → At (rows_made heads rows) m r → QueuesBack plan v r
  rows_back plan vs heads rows h places m v r at_v at_r =
      let made = row_at heads rows m r at_r in
      let ones = h.each m (queues_at v) made.head made.row (mapped_at queues_at vs m v at_v) made.head_there made.row_there in
      let back = queues_drained plan v made.head made.row ones (places m made.head made.head_there) in
      subst (λ (r : Rows). QueuesBack plan v r) made.is (record { trails = back.trails; count = back.count; drained = back.drained })

-- The rows of trails are as long as the rows of ends that they were made of.

module _ {T : Type 0} where
  pub rows_long : (qs : List (List (PushEnd T))) (ps : List (List (PopEnd T))) (ts : List (List (TrailEnd T))) → AllZip AreOfOnes qs ps → AreRowsOfTrails qs ps ts → map length ts ≡ map length ps
  rows_long qs ps ts of h =
      map_beside length length ts ps h.count
      (λ m t p at_t at_p.
      let inside = below_at ps m p at_p in
      let same = AllZip-long AreOfOnes qs ps of in
      let (q, at_q) = at_below qs m (omega (arith, same)) in
      (h.each m q p t at_q at_p at_t).count)
