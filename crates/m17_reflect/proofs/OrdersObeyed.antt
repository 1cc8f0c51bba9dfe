-- What is pushed at the ends of a row one after another.
use Rattle.std.proofs.Common.{◌≡◌, ℕ, ◌+◌, ◌<◌, List, [], ◌∷◌, ◌++◌, length, nat_lt, sym, ap, ◌∙◌, arith, map, Some, suc, Bool, true, false, refl, inl, inr, zero, All, subst, Result, Ok, Err}
use Rattle.std.specs.Prelude.{if◌then◌else◌, slice_get, ◌≢◌, MatchResult}
use Rattle.std.proofs.lemmas.Bool.Decides.{nat_tests}
use Rattle.m17_lane.specs.Ends.{PushEnd, PopEnd, TrailEnd, AreOf, new_popper, new_pusher, new_pushers}
use Rattle.m17_lane.specs.Rows.{push_each, only, pushes, IsNewPopper, as_new, as_new_popper, IsSameRow, IsSamePopRow}
use Rattle.m17_lane.specs.RowsLaws.{RowsPush, FirstOrderDecides}
use Rattle.std.specs.Option.{option_map}
use Rattle.std.proofs.lemmas.List.{length-map, append_assoc}
use Rattle.m17_crew.specs.declared.order.Order.{Order}
use Rattle.m17_lane.specs.Trails.{AreTrailsOfOnes}
use Rattle.m17_reflect.specs.Ends.{IsNewLine}
use Rattle.m17_reflect.proofs.PlaceByPlace.{at_below, below_at, mapped_at, AllZip3, choose, zip_at}
use Rattle.std.specs.List.{AllZip, AllByRecursion}
use Rattle.std.proofs.lemmas.Slice.Zip.{AllZip-long}
use Rattle.m17_values.specs.declared.heard.Heard.{Heard}
use Rattle.m17_ports.specs.Book.{BookTold}
use Rattle.m17_ports.specs.Ear.{EarTold}
use Rattle.m17_crew.specs.declared.order.Order.TheVariants.{Go, Quit, Stop}
use Rattle.m17_crew.specs.Laws.{Ran}
use Rattle.m17_lane.specs.Starts.{HasStarted}
use Rattle.m17_receiver.specs.declared.receiver.Receiver.{Receiver}
use Rattle.m17_receiver.specs.ReceiverDid.{ReceiverDid}
use Rattle.m17_worker.specs.declared.worker.Worker.{Worker}
use Rattle.m17_worker.specs.WorkerDid.{WorkerDid, HasWorked}
use Rattle.m17_reflect.proofs.LinksHeard.{HasHeardAll, heared}
use Rattle.std.proofs.lemmas.List.Elements.{All-from_recursion}
use Rattle.atomic_table.specs.Seated.{TableId}
use Rattle.m17_lane.specs.Columns.{lanes_of, lanes_popped}
use Rattle.m17_ports.specs.Mouth.{MouthTold}
use Rattle.m17_sender.specs.declared.sender.Sender.{Sender}
use Rattle.m17_sender.specs.Sent.{Sent, SenderDid}
use Rattle.m17_reflect.specs.Groups.{Staff, WereTold}
use Rattle.m17_reflect.specs.Rows.{AreOfOnes}

module _ {T : Type 0} where
  -- x at each of the first n places
  abbrev pub upto : T → ℕ → ℕ → List T
  upto x n i = if nat_lt i n then x ∷ [] else []

  upto_none : (x : T) (i : ℕ) → upto x 0 i ≡ []
  upto_none x i = grind (arith, nat_tests)

  upto_more : (x : T) (n m i : ℕ) → m ≡ n + 1 → upto x n i ++ only n x i ≡ upto x m i
  upto_more x n m i e = grind (arith, nat_tests)

  upto_all : (x : T) (n i : ℕ) → i < n → upto x n i ≡ x ∷ []
  upto_all x n i lt = grind (arith, nat_tests)

  pub told_none : RowsPush T → (x : T) (ps : List (PushEnd T)) → ps ≡ push_each (upto x 0) 0 ps
  told_none law x ps = sym (law.none (upto x 0) 0 ps (upto_none x))

  pub told_more : RowsPush T → (x : T) (n m : ℕ) (ps qs rs : List (PushEnd T)) → m ≡ n + 1 → qs ≡ push_each (upto x n) 0 ps → rs ≡ push_each (only n x) 0 qs → rs ≡ push_each (upto x m) 0 ps
  told_more law x n m ps qs rs e q r =
      r ∙ ap (push_each (only n x) 0) q ∙ law.twice (upto x n) (only n x) 0 ps
      ∙ law.same (λ i. upto x n i ++ only n x i) (upto x m) ps (λ i _. upto_more x n m i e)

  pub told_all : RowsPush T → (x : T) (n : ℕ) (ps qs : List (PushEnd T)) → length ps ≡ n → qs ≡ push_each (upto x n) 0 ps → qs ≡ push_each (λ _. x ∷ []) 0 ps
  told_all law x n ps qs e q = q ∙ law.same (upto x n) (λ _. x ∷ []) ps (λ i lt. upto_all x n i (omega arith))

  pub told_twice : RowsPush T → (x y : T) (ps qs rs : List (PushEnd T)) → qs ≡ push_each (λ _. x ∷ []) 0 ps → rs ≡ push_each (λ _. y ∷ []) 0 qs → rs ≡ push_each (λ _. x ∷ y ∷ []) 0 ps
  told_twice law x y ps qs rs q r =
      r ∙ ap (push_each (λ _. y ∷ []) 0) q ∙ law.twice (λ _. x ∷ []) (λ _. y ∷ []) 0 ps

-- What the jobs of a group were told, and that each got the first of it.

module _ {J : Type 0} where
  -- The orders of a group of jobs: the ends that told each job the same, before that and after, and the trails of their lanes.
  pub record OrdersCame (order_of : J → PopEnd Order) (told : List Order) (js ks : List J)
      (lines : List (PushEnd Order)) : Type 0 where
    pub new : IsNewLine 2 lines (map order_of js)
    pub trails : List (TrailEnd Order)
    pub count : length ks ≡ length js
    pub finished : AreTrailsOfOnes (push_each (λ _. told) 0 lines) (map order_of ks) trails

  -- each job had popped nothing, and what it then popped is the first part of what it was told
  pub order_came : RowsPush Order → (order_of : J → PopEnd Order) (told : List Order) (js ks : List J) (lines : List (PushEnd Order)) → OrdersCame order_of told js ks lines → (i : ℕ) (j k : J) → slice_get js i ≡ Some j → slice_get ks i ≡ Some k → IsNewPopper (order_of j) × ((rest : List Order) × (told ≡ (order_of k).popped ++ rest))
  order_came law order_of told js ks lines h i j k at_j at_k =
      let inside = below_at ks i k at_k in
      let long = length-map js order_of in
      let (q, at_q) = at_below lines i (omega (arith, h.new.count, h.count, long)) in
      let at_p = mapped_at order_of js i j at_j in
      let at_e = mapped_at order_of ks i k at_k in
      let made = h.new.each i q (order_of j) at_q at_p in
      let at_told : slice_get (push_each (λ _. told) 0 lines) i ≡ Some (pushes q told) = law.at (λ _. told) lines i ∙ ap (option_map (λ p. pushes p told)) at_q in
      let many = law.count (λ _. told) 0 lines in
      let (t, at_t) = at_below h.trails i (omega (arith, h.finished.count, length-map ks order_of)) in
      let (rest, settled) = (h.finished.each i (pushes q told) (order_of k) t at_told at_e at_t).settled in
      let none : q.pushed ≡ [] = ap (λ (p : PushEnd Order). p.pushed) made.1 in (
        ap (λ (p : PopEnd Order). p.popped) made.0,
        (rest, sym (ap (λ (xs : List Order). xs ++ told) none) ∙ settled),
      )

-- Each job of a run went, or each only quit, by what it was told.

module _ {A B : Type 0} where
  -- what holds place by place holds of all
  pub zip_from : (P : A → B → Type 0) (xs : List A) (ys : List B) → length ys ≡ length xs → ((i : ℕ) (x : A) (y : B) → slice_get xs i ≡ Some x → slice_get ys i ≡ Some y → P x y) → AllZip P xs ys
  zip_from P [] [] e h = tt
  zip_from P [] (y ∷ ys) e h = absurd (omega arith)
  zip_from P (x ∷ xs) [] e h = absurd (omega arith)
  zip_from P (x ∷ xs) (y ∷ ys) e h =
      (h 0 x y refl refl, zip_from P xs ys (omega arith) (λ i a b ea eb. h (suc i) a b ea eb))

go_is_no_stop : Go ≢ Stop
go_is_no_stop e = cc

pub quit_is_no_stop : Quit ≢ Stop
quit_is_no_stop e = cc

-- a job that was told to go has gone
pub went : (goes : Bool) → Go ≡ (if goes then Go else Quit) → goes ≡ true
went true e = refl
went false e = absurd cc

-- and one that was told to quit has not
pub stayed : (goes : Bool) → Quit ≡ (if goes then Go else Quit) → goes ≡ false
stayed true e = absurd cc
stayed false e = refl

-- The laws on orders.
pub record OrderLaws : Type 0 where
  pub rows : RowsPush Order
  pub first : FirstOrderDecides

module _ {J : Type 0} where
  -- which of the two a job of a group did
  pub told_go : OrderLaws → (order_of : J → PopEnd Order) (more : List Order) (js ks : List J) (lines : List (PushEnd Order)) → OrdersCame order_of (Go ∷ more) js ks lines → (i : ℕ) (j k : J) → slice_get js i ≡ Some j → slice_get ks i ≡ Some k → (goes : Bool) → HasStarted (order_of j) goes (order_of k) → goes ≡ true
  told_go laws order_of more js ks lines h i j k at_j at_k goes started =
      let (new, (rest, told)) = order_came laws.rows order_of (Go ∷ more) js ks lines h i j k at_j at_k in
      went goes (laws.first (order_of j) (order_of k) goes Go more rest new started told go_is_no_stop).0

  pub told_quit : OrderLaws → (order_of : J → PopEnd Order) (more : List Order) (js ks : List J) (lines : List (PushEnd Order)) → OrdersCame order_of (Quit ∷ more) js ks lines → (i : ℕ) (j k : J) → slice_get js i ≡ Some j → slice_get ks i ≡ Some k → (goes : Bool) → HasStarted (order_of j) goes (order_of k) → goes ≡ false
  told_quit laws order_of more js ks lines h i j k at_j at_k goes started =
      let (new, (rest, told)) = order_came laws.rows order_of (Quit ∷ more) js ks lines h i j k at_j at_k in
      stayed goes (laws.first (order_of j) (order_of k) goes Quit more rest new started told quit_is_no_stop).0

abbrev pub receiver_order : {E B : Type 0} → Receiver E B → PopEnd Order
receiver_order j = j.order

abbrev pub worker_order : {B : Type 0} → Worker B → PopEnd Order
worker_order j = j.order

module _ {E B : Type 0} where
  -- what each receiver's ear heard
  pub all_heared : {EL BL : Type 0} (hears : E → EarTold EL) (writes : B → BookTold BL) (laws : OrderLaws) (js ks : List (Receiver E B)) (lines : List (PushEnd Order)) → AllZip (ReceiverDid hears writes) js ks → OrdersCame receiver_order (Go ∷ []) js ks lines → (heards : List (List Heard)) × AllZip3 (HasHeardAll hears writes) js ks heards
  all_heared hears writes laws js ks lines did h =
      choose (HasHeardAll hears writes) js ks
      (zip_from (λ j k. (heard : List Heard) × HasHeardAll hears writes j k heard) js ks (AllZip-long (ReceiverDid hears writes) js ks did)
      (λ i j k at_j at_k. let it = zip_at (ReceiverDid hears writes) js ks did i j k at_j at_k in
      heared hears writes j k (it.gone (told_go laws receiver_order [] js ks lines h i j k at_j at_k it.goes it.order))))

module _ {B : Type 0} where
  -- what each worker did
  pub all_worked : {BL : Type 0} (writes : B → BookTold BL) (laws : OrderLaws) (js ks : List (Worker B)) (lines : List (PushEnd Order)) → AllZip (WorkerDid writes) js ks → OrdersCame worker_order (Go ∷ []) js ks lines → AllZip (HasWorked writes) js ks
  all_worked writes laws js ks lines did h =
      zip_from (HasWorked writes) js ks (AllZip-long (WorkerDid writes) js ks did)
      (λ i j k at_j at_k. let it = zip_at (WorkerDid writes) js ks did i j k at_j at_k in
      it.worked (told_go laws worker_order [] js ks lines h i j k at_j at_k it.goes it.order))

module _ {J X : Type 0} where
  -- what is the same place by place is the same in all
  pub same_parts : (f : J → X) (js ks : List J) → length ks ≡ length js → ((i : ℕ) (j k : J) → slice_get js i ≡ Some j → slice_get ks i ≡ Some k → f k ≡ f j) → map f ks ≡ map f js
  same_parts f [] [] e h = refl
  same_parts f [] (k ∷ ks) e h = absurd (omega arith)
  same_parts f (j ∷ js) [] e h = absurd (omega arith)
  same_parts f (j ∷ js) (k ∷ ks) e h =
      ap (λ (x : X). x ∷ map f ks) (h 0 j k refl refl)
      ∙ ap (λ (xs : List X). f j ∷ xs) (same_parts f js ks (omega arith) (λ i a b ea eb. h (suc i) a b ea eb))

module _ {E B X : Type 0} where
  -- a receiver that only quit has all but its order
  receiver_stayed : {EL BL : Type 0} (hears : E → EarTold EL) (writes : B → BookTold BL) (laws : OrderLaws) (f : Receiver E B → X) (js ks : List (Receiver E B)) (lines : List (PushEnd Order)) → ((j : Receiver E B) (p : PopEnd Order) → f (record j { order = p }) ≡ f j) → OrdersCame receiver_order (Quit ∷ []) js ks lines → (i : ℕ) (j k : Receiver E B) → slice_get js i ≡ Some j → slice_get ks i ≡ Some k → Ran (ReceiverDid hears writes) j k → f k ≡ f j
  receiver_stayed hears writes laws f js ks lines keeps h i j k at_j at_k (inl same) = ap f same
  receiver_stayed hears writes laws f js ks lines keeps h i j k at_j at_k (inr did) =
      ap f (did.quit (told_quit laws receiver_order [] js ks lines h i j k at_j at_k did.goes did.order)) ∙ keeps j k.order

  -- and so have all receivers
  pub receivers_stayed : {EL BL : Type 0} (hears : E → EarTold EL) (writes : B → BookTold BL) (laws : OrderLaws) (f : Receiver E B → X) (js ks : List (Receiver E B)) (lines : List (PushEnd Order)) → ((j : Receiver E B) (p : PopEnd Order) → f (record j { order = p }) ≡ f j) → AllZip (Ran (ReceiverDid hears writes)) js ks → OrdersCame receiver_order (Quit ∷ []) js ks lines → map f ks ≡ map f js
  receivers_stayed hears writes laws f js ks lines keeps ran h =
      same_parts f js ks (AllZip-long (Ran (ReceiverDid hears writes)) js ks ran)
      (λ i j k at_j at_k. receiver_stayed hears writes laws f js ks lines keeps h i j k at_j at_k (zip_at (Ran (ReceiverDid hears writes)) js ks ran i j k at_j at_k))

module _ {B X : Type 0} where
  worker_stayed : {BL : Type 0} (writes : B → BookTold BL) (laws : OrderLaws) (f : Worker B → X) (js ks : List (Worker B)) (lines : List (PushEnd Order)) → ((j : Worker B) (p : PopEnd Order) → f (record j { order = p }) ≡ f j) → OrdersCame worker_order (Quit ∷ []) js ks lines → (i : ℕ) (j k : Worker B) → slice_get js i ≡ Some j → slice_get ks i ≡ Some k → Ran (WorkerDid writes) j k → f k ≡ f j
  worker_stayed writes laws f js ks lines keeps h i j k at_j at_k (inl same) = ap f same
  worker_stayed writes laws f js ks lines keeps h i j k at_j at_k (inr did) =
      ap f (did.quit (told_quit laws worker_order [] js ks lines h i j k at_j at_k did.goes did.order)) ∙ keeps j k.order

  pub workers_stayed : {BL : Type 0} (writes : B → BookTold BL) (laws : OrderLaws) (f : Worker B → X) (js ks : List (Worker B)) (lines : List (PushEnd Order)) → ((j : Worker B) (p : PopEnd Order) → f (record j { order = p }) ≡ f j) → AllZip (Ran (WorkerDid writes)) js ks → OrdersCame worker_order (Quit ∷ []) js ks lines → map f ks ≡ map f js
  workers_stayed writes laws f js ks lines keeps ran h =
      same_parts f js ks (AllZip-long (Ran (WorkerDid writes)) js ks ran)
      (λ i j k at_j at_k. worker_stayed writes laws f js ks lines keeps h i j k at_j at_k (zip_at (Ran (WorkerDid writes)) js ks ran i j k at_j at_k))

-- The ends that the jobs give back are those of the lanes that were laid, whatever went through them.

module _ {A B : Type 0} where
  -- a relation of jobs, as one of their parts
  pub zip_parts : (P : A → A → Type 0) (Q : B → B → Type 0) (f : A → B) → ((x y : A) → P x y → Q (f x) (f y)) → (xs ys : List A) → AllZip P xs ys → AllZip Q (map f xs) (map f ys)
  zip_parts P Q f h [] [] z = tt
  zip_parts P Q f h [] (y ∷ ys) z = absurd z
  zip_parts P Q f h (x ∷ xs) [] z = absurd z
  zip_parts P Q f h (x ∷ xs) (y ∷ ys) z = (h x y z.0, zip_parts P Q f h xs ys z.1)

module _ {A C : Type 0} where
  -- what each pair has the same
  pub zip_same : (P : A → A → Type 0) (f : A → C) → ((x y : A) → P x y → f y ≡ f x) → (xs ys : List A) → AllZip P xs ys → map f ys ≡ map f xs
  zip_same P f h [] [] z = refl
  zip_same P f h [] (y ∷ ys) z = absurd z
  zip_same P f h (x ∷ xs) [] z = absurd z
  zip_same P f h (x ∷ xs) (y ∷ ys) z =
      ap (λ (c : C). c ∷ map f ys) (h x y z.0) ∙ ap (λ (l : List C). f x ∷ l) (zip_same P f h xs ys z.1)

module _ {A B C : Type 0} where
  pub map_twice : (f : A → B) (g : B → C) (xs : List A) → map g (map f xs) ≡ map (λ x. g (f x)) xs
  map_twice f g [] = refl
  map_twice f g (x ∷ xs) = ap (λ (l : List C). g (f x) ∷ l) (map_twice f g xs)

module _ {T : Type 0} where
  long_append : (xs : List (PushEnd T)) (x : PushEnd T) → length (xs ++ x ∷ []) ≡ suc (length xs)
  long_append [] x = refl
  long_append (y ∷ xs) x = ap suc (long_append xs x)

  -- the same ends have the same lanes
  pub same_lanes : (before after : List (PushEnd T)) → IsSameRow before after → lanes_of after ≡ lanes_of before
  same_lanes before after e =
      sym (map_twice as_new (λ (q : PushEnd T). q.lane) after) ∙ ap (map (λ (q : PushEnd T). q.lane)) e ∙ map_twice as_new (λ (q : PushEnd T). q.lane) before

  pub same_popped : (before after : List (PopEnd T)) → IsSamePopRow before after → lanes_popped after ≡ lanes_popped before
  same_popped before after e =
      sym (map_twice as_new_popper (λ (p : PopEnd T). p.lane) after) ∙ ap (map (λ (p : PopEnd T). p.lane)) e ∙ map_twice as_new_popper (λ (p : PopEnd T). p.lane) before

  line_from : (capacity : ℕ) (qs : List (PushEnd T)) (ps : List (PopEnd T)) → length qs ≡ length ps → ((i : ℕ) (q : PushEnd T) (p : PopEnd T) → slice_get qs i ≡ Some q → slice_get ps i ≡ Some p → (p ≡ new_popper p.lane capacity 1) × (q ≡ new_pusher p 0)) → (lanes_of qs ≡ lanes_popped ps) × AllByRecursion (λ p. p.producers ≡ 1) ps
  line_from capacity [] [] e h = (refl, tt)
  line_from capacity [] (p ∷ ps) e h = absurd (omega arith)
  line_from capacity (q ∷ qs) [] e h = absurd (omega arith)
  line_from capacity (q ∷ qs) (p ∷ ps) e h =
      let rest = line_from capacity qs ps (omega arith) (λ i a b ea eb. h (suc i) a b ea eb) in
      let here = h 0 q p refl refl in (
        ap (λ (l : TableId). l ∷ lanes_of qs) (ap (λ (r : PushEnd T). r.lane) here.1) ∙ ap (λ (ls : List TableId). p.lane ∷ ls) rest.0,
        (ap (λ (r : PopEnd T). r.producers) here.0, rest.1),
      )

  producers_same : (before after : List (PopEnd T)) → map as_new_popper after ≡ map as_new_popper before → AllByRecursion (λ p. p.producers ≡ 1) before → AllByRecursion (λ p. p.producers ≡ 1) after
  producers_same [] [] e h = tt
  producers_same [] (p ∷ after) e h = absurd cc
  producers_same (q ∷ before) [] e h = absurd cc
  producers_same (q ∷ before) (p ∷ after) e h =
      let here : as_new_popper p ≡ as_new_popper q = cc in
      let rest : map as_new_popper after ≡ map as_new_popper before = cc in
      (ap (λ (r : PopEnd T). r.producers) here ∙ h.0, producers_same before after rest h.1)

  -- What `finish_row` wants of the ends of lanes of one producer.
  pub record CanFinish (pushers : List (PushEnd T)) (poppers : List (PopEnd T)) : Type 0 where
    pub lanes : lanes_of pushers ≡ lanes_popped poppers
    pub alone : All (λ p. p.producers ≡ 1) poppers

  pub line_back : (capacity : ℕ) (qs qs' : List (PushEnd T)) (ps ps' : List (PopEnd T)) → IsNewLine capacity qs ps → IsSameRow qs qs' → IsSamePopRow ps ps' → CanFinish qs' ps'
  line_back capacity qs qs' ps ps' line pushed popped =
      let made = line_from capacity qs ps line.count line.each in record {
        lanes = same_lanes qs qs' pushed ∙ made.0 ∙ sym (same_popped ps ps' popped);
        alone = All-from_recursion (λ p. p.producers ≡ 1) ps' (producers_same ps ps' popped made.1);
      }

  -- the row of one lane's new pushers, whatever went through them
  of_append : (lane : TableId) (xs ys : List (PushEnd T)) → AreOf lane xs → AreOf lane ys → AreOf lane (xs ++ ys)
  of_append lane [] ys h g = g
  of_append lane (x ∷ xs) ys h g = (h.0, of_append lane xs ys h.1 g)

  new_of : (p : PopEnd T) (n : ℕ) → AreOf p.lane (new_pushers p n)
  new_of p zero = tt
  new_of p (suc n) = of_append p.lane (new_pushers p n) (new_pusher p n ∷ []) (new_of p n) (refl, tt)

  of_same : (lane : TableId) (before after : List (PushEnd T)) → map as_new after ≡ map as_new before → AreOf lane before → AreOf lane after
  of_same lane [] [] e h = tt
  of_same lane [] (p ∷ after) e h = absurd cc
  of_same lane (q ∷ before) [] e h = absurd cc
  of_same lane (q ∷ before) (p ∷ after) e h =
      let here : as_new p ≡ as_new q = cc in
      let rest : map as_new after ≡ map as_new before = cc in
      (ap (λ (r : PushEnd T). r.lane) here ∙ h.0, of_same lane before after rest h.1)

  new_count : (p : PopEnd T) (n : ℕ) → length (new_pushers p n) ≡ n
  new_count p zero = refl
  new_count p (suc n) = let rest = new_count p n in let more = long_append (new_pushers p n) (new_pusher p n) in omega arith

  -- What `finish` wants of the ends of a lane of several producers.
  pub record CanFinishOne (pushers : List (PushEnd T)) (popper : PopEnd T) : Type 0 where
    pub of_one_lane : AreOf popper.lane pushers
    pub all : length pushers ≡ popper.producers

  pub one_back : (capacity n : ℕ) (qs qs' : List (PushEnd T)) (p p' : PopEnd T) → p ≡ new_popper p.lane capacity n → qs ≡ new_pushers p n → IsSameRow qs qs' → as_new_popper p' ≡ as_new_popper p → CanFinishOne qs' p'
  one_back capacity n qs qs' p p' made row pushed popped =
      let lane : p'.lane ≡ p.lane = ap (λ (r : PopEnd T). r.lane) popped in
      let producers : p'.producers ≡ n = ap (λ (r : PopEnd T). r.producers) popped ∙ ap (λ (r : PopEnd T). r.producers) made in
      let of : AreOf p.lane qs = subst (AreOf p.lane) (sym row) (new_of p n) in record {
        of_one_lane = subst (λ (l : TableId). AreOf l qs') (sym lane) (of_same p.lane qs qs' pushed of);
        all = sym (length-map qs' as_new) ∙ ap length pushed ∙ length-map qs as_new ∙ ap length row ∙ new_count p n ∙ sym producers;
      }

-- The orders' lanes can be finished, and what the sender did follows from what it was told.

-- the order's end stays that of its lane
abbrev pub KeepsOrder : {J : Type 0} → (J → PopEnd Order) → (J → J → Type 0) → Type 0
KeepsOrder {J} order_of P = (j k : J) → P j k → as_new_popper (order_of k) ≡ as_new_popper (order_of j)

module _ {J : Type 0} where
  -- the lanes of a group's orders, whatever the jobs were told
  pub orders_back : RowsPush Order → (order_of : J → PopEnd Order) (P : J → J → Type 0) → KeepsOrder order_of P → (told : List Order) (js ks : List J) (lines : List (PushEnd Order)) → IsNewLine 2 lines (map order_of js) → AllZip P js ks → CanFinish (push_each (λ _. told) 0 lines) (map order_of ks)
  orders_back law order_of P keeps told js ks lines new did =
      line_back 2 lines (push_each (λ _. told) 0 lines) (map order_of js) (map order_of ks) new (law.kept (λ _. told) 0 lines)
      (map_twice order_of as_new_popper ks ∙ zip_same P (λ j. as_new_popper (order_of j)) keeps js ks did ∙ sym (map_twice order_of as_new_popper js))

  pub orders_came : (order_of : J → PopEnd Order) (P : J → J → Type 0) (told : List Order) (js ks : List J) (lines : List (PushEnd Order)) (trails : List (TrailEnd Order)) → IsNewLine 2 lines (map order_of js) → AllZip P js ks → AreTrailsOfOnes (push_each (λ _. told) 0 lines) (map order_of ks) trails → OrdersCame order_of told js ks lines
  orders_came order_of P told js ks lines trails new did finished =
      record { new = new; trails = trails; count = AllZip-long P js ks did; finished = finished }

module _ {E B : Type 0} where
  pub receiver_keeps : {EL BL : Type 0} (hears : E → EarTold EL) (writes : B → BookTold BL) → KeepsOrder receiver_order (Ran (ReceiverDid hears writes))
  receiver_keeps hears writes j k (inl same) = ap (λ (r : Receiver E B). as_new_popper r.order) same
  receiver_keeps hears writes j k (inr did) = ap as_new_popper did.order.orders

module _ {B : Type 0} where
  pub worker_keeps : {BL : Type 0} (writes : B → BookTold BL) → KeepsOrder worker_order (Ran (WorkerDid writes))
  worker_keeps writes j k (inl same) = ap (λ (r : Worker B). as_new_popper r.order) same
  worker_keeps writes j k (inr did) = ap as_new_popper did.order.orders

abbrev pub sender_order : {M : Type 0} → Sender M → PopEnd Order
sender_order s = s.order

module _ {M L : Type 0} where
  sender_kept : (tells : M → MouthTold L) (j k : Sender M) (goes : Bool) (did : SenderDid tells j k) → did.goes ≡ goes → as_new_popper k.order ≡ as_new_popper j.order
  sender_kept tells j k true did e = ap as_new_popper (did.went e).stopped.orders ∙ ap as_new_popper did.started.orders
  sender_kept tells j k false did e = ap (λ (r : Sender M). as_new_popper r.order) (did.quit e) ∙ ap as_new_popper did.started.orders

  pub sender_keeps : (tells : M → MouthTold L) → KeepsOrder sender_order (Ran (SenderDid tells))
  sender_keeps tells j k (inl same) = ap (λ (r : Sender M). as_new_popper r.order) same
  sender_keeps tells j k (inr did) = sender_kept tells j k did.goes did refl

  sender_went_by : (laws : OrderLaws) (tells : M → MouthTold L) (more : List Order) (j k : Sender M) (lines : List (PushEnd Order)) → OrdersCame sender_order (Go ∷ more) (j ∷ []) (k ∷ []) lines → (did : SenderDid tells j k) (goes : Bool) → did.goes ≡ goes → goes ≡ true
  sender_went_by laws tells more j k lines h did true e = refl
  sender_went_by laws tells more j k lines h did false e =
      told_go laws sender_order more (j ∷ []) (k ∷ []) lines h 0 j k refl refl false
      (subst (λ (goes : Bool). HasStarted j.order goes k.order) e
      (subst (HasStarted j.order did.goes) (sym (ap (λ (r : Sender M). r.order) (did.quit e))) did.started))

  -- a sender that was told to go has sent
  pub sender_went : (laws : OrderLaws) (tells : M → MouthTold L) (more : List Order) (j k : Sender M) (lines : List (PushEnd Order)) → OrdersCame sender_order (Go ∷ more) (j ∷ []) (k ∷ []) lines → (did : SenderDid tells j k) → Sent tells j k did.order
  sender_went laws tells more j k lines h did = did.went (sender_went_by laws tells more j k lines h did did.goes refl)

  quit_first : (laws : OrderLaws) (tells : M → MouthTold L) (j k : Sender M) (lines : List (PushEnd Order)) → OrdersCame sender_order (Quit ∷ []) (j ∷ []) (k ∷ []) lines → (did : SenderDid tells j k) (goes : Bool) → did.goes ≡ goes → goes ≡ false
  quit_first laws tells j k lines h did false e = refl
  quit_first laws tells j k lines h did true e =
      let (new, (rest, told)) = order_came laws.rows sender_order (Quit ∷ []) (j ∷ []) (k ∷ []) lines h 0 j k refl refl in
      let last = (did.went e).stopped in
      let behind : Quit ∷ [] ≡ did.order.popped ++ ((last.others ++ Stop ∷ []) ++ rest) =
      told ∙ ap (λ (q : PopEnd Order). q.popped ++ rest) last.orders ∙ append_assoc did.order.popped (last.others ++ Stop ∷ []) rest in
      stayed true (laws.first j.order did.order true Quit [] ((last.others ++ Stop ∷ []) ++ rest) new
      (subst (λ (goes : Bool). HasStarted j.order goes did.order) e did.started) behind quit_is_no_stop).0

  -- and one that was told to quit has all but its order
  pub sender_stayed : {X : Type 0} (laws : OrderLaws) (tells : M → MouthTold L) (f : Sender M → X) (j k : Sender M) (lines : List (PushEnd Order)) → ((j : Sender M) (p : PopEnd Order) → f (record j { order = p }) ≡ f j) → OrdersCame sender_order (Quit ∷ []) (j ∷ []) (k ∷ []) lines → Ran (SenderDid tells) j k → f k ≡ f j
  sender_stayed laws tells f j k lines keeps h (inl same) = ap f same
  sender_stayed laws tells f j k lines keeps h (inr did) =
      ap f (did.quit (quit_first laws tells j k lines h did did.goes refl)) ∙ keeps j did.order

-- What follows of jobs that were launched: their orders can be finished, and what they did is known then.

module _ {A B : Type 0} where
  -- a relation that says less
  pub zip_less : (P Q : A → B → Type 0) → ((x : A) (y : B) → P x y → Q x y) → (xs : List A) (ys : List B) → AllZip P xs ys → AllZip Q xs ys
  zip_less P Q f [] [] h = tt
  zip_less P Q f [] (y ∷ ys) h = absurd h
  zip_less P Q f (x ∷ xs) [] h = absurd h
  zip_less P Q f (x ∷ xs) (y ∷ ys) h = (f x y h.0, zip_less P Q f xs ys h.1)

module _ {T : Type 0} where
  pub as_ones : (qs : List (PushEnd T)) (ps : List (PopEnd T)) → CanFinish qs ps → AreOfOnes qs ps
  as_ones qs ps h = record { lanes = h.lanes; alone = h.alone }

module _ {J : Type 0} where
  -- the lanes of the orders of jobs that were told these can be finished
  pub told_ones : RowsPush Order → (order_of : J → PopEnd Order) (P : J → J → Type 0) → KeepsOrder order_of P → (told : List Order) (before after : Staff J) → IsNewLine 2 before.orders (map order_of before.jobs) → WereTold P told before after → AreOfOnes after.orders (map order_of after.jobs)
  told_ones law order_of P keeps told before after new h =
      subst (λ (qs : List (PushEnd Order)). AreOfOnes qs (map order_of after.jobs)) (sym h.orders)
      (as_ones (push_each (λ _. told) 0 before.orders) (map order_of after.jobs)
      (orders_back law order_of P keeps told before.jobs after.jobs before.orders new h.jobs))

  -- and when they are, each job got the first order
  pub told_came : (order_of : J → PopEnd Order) (P : J → J → Type 0) (told : List Order) (before after : Staff J) (trails : List (TrailEnd Order)) → IsNewLine 2 before.orders (map order_of before.jobs) → WereTold P told before after → AreTrailsOfOnes after.orders (map order_of after.jobs) trails → OrdersCame order_of told before.jobs after.jobs before.orders
  told_came order_of P told before after trails new h are =
      orders_came order_of P told before.jobs after.jobs before.orders trails new h.jobs
      (subst (λ (qs : List (PushEnd Order)). AreTrailsOfOnes qs (map order_of after.jobs) trails) h.orders are)

  pub told_long : (P : J → J → Type 0) (told : List Order) (before after : Staff J) → WereTold P told before after → length after.jobs ≡ length before.jobs
  told_long P told before after h = AllZip-long P before.jobs after.jobs h.jobs

module _ {J U V : Type 0} where
  -- Jobs that were launched ran, whether all went or all were told to quit.
  pub launched : (P : J → J → Type 0) (more : List Order) (before after : Staff J) (r : Result U V) → MatchResult r (λ _. WereTold P (Go ∷ more) before after) (λ _. WereTold (Ran P) (Quit ∷ []) before after) → (told : List Order) × WereTold (Ran P) told before after
  launched P more before after (Ok _) h = (Go ∷ more, record { jobs = zip_less P (Ran P) (λ j k did. inr did) before.jobs after.jobs h.jobs; orders = h.orders })
  launched P more before after (Err _) h = (Quit ∷ [], h)

module _ {J : Type 0} where
  -- one job is one
  pub one_job : (js ks : List J) (s : J) → js ≡ s ∷ [] → length ks ≡ length js → (t : J) × (ks ≡ t ∷ [])
  one_job js [] s e long = absurd (let one = ap length e in omega (arith, one))
  one_job js (t ∷ []) s e long = (t, refl)
  one_job js (t ∷ u ∷ ks) s e long = absurd (let one = ap length e in omega (arith, one))
