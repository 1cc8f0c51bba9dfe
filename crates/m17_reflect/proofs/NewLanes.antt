-- What holds of each end of new lanes, and of each seat of a new roll.
use Rattle.std.proofs.Common.{◌≡◌, ℕ, zero, suc, ◌+◌, List, [], ◌∷◌, ◌++◌, length, replicate, Some, sym, subst, refl, ap, ◌∙◌, arith, ◌*◌, ◌<◌, ◌≤◌, map, reverse, ◌-◌, Bool, cond, take, filter, get_or}
use Rattle.std.specs.Prelude.{slice_get}
use Rattle.std.specs.List.{AllByRecursion, range_with_len}
use Rattle.std.proofs.lemmas.Option.{same_Some, none-some, slice_get_within}
use Rattle.std.proofs.lemmas.List.{length-map, length_push}
use Rattle.std.proofs.lemmas.List.Elements.{recursion_from_All, filter_more}
use Rattle.m17_lists.proofs.Places.{each_place_has_one, what_stands_stays}
use Rattle.m17_lane.specs.Ends.{PushEnd, PopEnd, new_pusher, new_pushers, new_popper}
use Rattle.m17_lane.specs.Rows.{IsNewPusher, IsNewPopper, IsNewRow}
use Rattle.m17_lane.specs.Columns.{lanes_of, lanes_popped}
use Rattle.m17_lane.specs.Laid.{IsLaid}
use Rattle.m17_reflect.specs.Ends.{IsNewLine, AreNewLines}
use Rattle.m17_reflect.proofs.PlaceByPlace.{all_at, each_snoc, none_taken, taken_next, taken_all}
use Rattle.std.proofs.Math.Nat.{suc-mul}
use Rattle.std.proofs.Math.Numerals.{suc-eq-add-one}
use Rattle.std.proofs.lemmas.Nat.{mul-le}
use Rattle.m17_lists.proofs.Lengths.{one_more_is_first_in_reverse}
use Rattle.m17_receiver.specs.declared.receiver.Receiver.{Receiver}
use Rattle.m17_worker.specs.declared.worker.Worker.{Worker}
use Rattle.m17_plan.specs.declared.plan.Plan.{Plan}
use Rattle.m17_reflect.specs.declared.bare_receivers.LinkEnds.{LinkEnds}
use Rattle.m17_reflect.specs.declared.bare_workers.ModuleEnds.{ModuleEnds}
use Rattle.m17_reflect.specs.Bare.{bare, bare_worker, EachFrom, IsNewReceiver, IsNewWorker}
use Rattle.m17_reflect.specs.Taken.{AreTakenFromLinks, AreFromLinks, AreTakenFromModules}
use Rattle.std.proofs.lemmas.List.FromFn.{get_or-range_with_len, length-range_with_len}
use Rattle.std.proofs.lemmas.List.Sums.{length-filter, count_by-le-length}
use Rattle.m17_control.specs.declared.modules.Modules.{Modules}
use Rattle.m17_control.specs.Modules.{serves, letters_of}
use Rattle.m17_module.specs.Items as module_items
use Rattle.m17_plan.specs.Planned.{module_setup}

module _ {A : Type 0} where
  all_snoc : (P : A → Type 0) (xs : List A) (x : A) → AllByRecursion P xs → P x → AllByRecursion P (xs ++ x ∷ [])
  all_snoc P [] x h p = (p, tt)
  all_snoc P (y ∷ xs) x h p = (h.0, all_snoc P xs x h.1 p)

  replicated : (n : ℕ) (s x : A) (i : ℕ) → slice_get (replicate n s) i ≡ Some x → s ≡ x
  replicated zero s x i e = absurd (none-some x e)
  replicated (suc n) s x zero e = same_Some s x e
  replicated (suc n) s x (suc i) e = replicated n s x i e

  at_back : (xs ys : List A) (i n : ℕ) (x : A) → n ≡ length xs + i → slice_get ys i ≡ Some x → slice_get (xs ++ ys) n ≡ Some x
  at_back [] ys i n x is e = let same : i ≡ n = omega arith in subst (λ (k : ℕ). slice_get ys k ≡ Some x) same e
  at_back (y ∷ xs) ys i zero x is e = absurd (omega arith)
  at_back (y ∷ xs) ys i (suc n) x is e = at_back xs ys i n x (omega arith) e

  -- each of the front and of the back of copies
  pub front_same : (xs ys : List A) (n : ℕ) (s : A) → xs ++ ys ≡ replicate n s → (i : ℕ) (x : A) → slice_get xs i ≡ Some x → s ≡ x
  front_same xs ys n s e i x at = replicated n s x i (sym (ap (λ (l : List A). slice_get l i) e) ∙ what_stands_stays xs ys i x at)

  pub back_same : (xs ys : List A) (n : ℕ) (s : A) → xs ++ ys ≡ replicate n s → (i : ℕ) (x : A) → slice_get ys i ≡ Some x → s ≡ x
  back_same xs ys n s e i x at = replicated n s x (length xs + i) (sym (ap (λ (l : List A). slice_get l (length xs + i)) e) ∙ at_back xs ys i (length xs + i) x refl at)

module _ {T : Type 0} where
  none_pushed : (p : PopEnd T) (n : ℕ) → AllByRecursion IsNewPusher (new_pushers p n)
  none_pushed p zero = tt
  none_pushed p (suc n) = all_snoc IsNewPusher (new_pushers p n) (new_pusher p n) (none_pushed p n) (refl, refl)

  pub long_pushers : (p : PopEnd T) (n : ℕ) → length (new_pushers p n) ≡ n
  long_pushers p zero = refl
  long_pushers p (suc n) = omega (arith, length_push (new_pushers p n) (new_pusher p n), long_pushers p n)

  -- a pusher of a new lane of many producers
  pub new_door : (p : PopEnd T) (n : ℕ) (qs : List (PushEnd T)) → qs ≡ new_pushers p n → (i : ℕ) (q : PushEnd T) → slice_get qs i ≡ Some q → IsNewPusher q
  new_door p n qs is i q at = all_at IsNewPusher (new_pushers p n) (none_pushed p n) i q (sym (ap (λ (l : List (PushEnd T)). slice_get l i) is) ∙ at)

  -- the popper and the pusher of a new lane of one producer
  pub line_popper : (capacity : ℕ) (qs : List (PushEnd T)) (ps : List (PopEnd T)) → IsNewLine capacity qs ps → (i : ℕ) (p : PopEnd T) → slice_get ps i ≡ Some p → IsNewPopper p
  line_popper capacity qs ps line i p at =
      let (q, at_q) = each_place_has_one qs i (omega (arith, line.count, slice_get_within ps i p at)) in
      ap (λ (x : PopEnd T). x.popped) (line.each i q p at_q at).0

  pub line_pusher : (capacity : ℕ) (qs : List (PushEnd T)) (ps : List (PopEnd T)) → IsNewLine capacity qs ps → (i : ℕ) (q : PushEnd T) → slice_get qs i ≡ Some q → (IsNewPusher q × (q.producers ≡ 1)) × (q.capacity ≡ capacity)
  line_pusher capacity qs ps line i q at =
      let (p, at_p) = each_place_has_one ps i (omega (arith, line.count, slice_get_within qs i q at)) in
      let ends = line.each i q p at at_p in (
        ((ap (λ (x : PushEnd T). x.pushed) ends.1, ap (λ (x : PushEnd T). x.refused) ends.1), ap (λ (x : PushEnd T). x.producers) ends.1 ∙ ap (λ (x : PopEnd T). x.producers) ends.0),
        ap (λ (x : PushEnd T). x.capacity) ends.1 ∙ ap (λ (x : PopEnd T). x.capacity) ends.0,
      )

  -- a column of new inboxes, and a popper of them
  pub new_column : (links capacity : ℕ) (columns : List (List (PushEnd T))) (poppers : List (PopEnd T)) → IsLaid links capacity columns poppers → (i : ℕ) (column : List (PushEnd T)) → slice_get columns i ≡ Some column → IsNewRow column × (length column ≡ length poppers)
  new_column links capacity columns poppers laid i column at =
      let lanes = all_at (λ c. lanes_of c ≡ lanes_popped poppers) columns (recursion_from_All (λ c. lanes_of c ≡ lanes_popped poppers) columns laid.grid.lanes) i column at in (
        all_at IsNewRow columns (recursion_from_All IsNewRow columns laid.new) i column at,
        (let long = ap length lanes in omega (arith, long, length-map column (λ q. q.lane), length-map poppers (λ p. p.lane))),
      )

  pub new_inbox : (links capacity : ℕ) (columns : List (List (PushEnd T))) (poppers : List (PopEnd T)) → IsLaid links capacity columns poppers → (m : ℕ) (p : PopEnd T) → slice_get poppers m ≡ Some p → IsNewPopper p
  new_inbox links capacity columns poppers laid m p at = ap (λ (x : PopEnd T). x.popped) (laid.rows m p at).0

  -- a row of queues, and the row of their heads
  pub new_queues : (capacity modules places : ℕ) (rows : List (List (PushEnd T))) (heads : List (List (PopEnd T))) → AreNewLines capacity modules places rows heads → (m : ℕ) (row : List (PushEnd T)) → slice_get rows m ≡ Some row → (head : List (PopEnd T)) × IsNewLine capacity row head × (length head ≡ places)
  new_queues capacity modules places rows heads lines m row at =
      let (head, at_h) = each_place_has_one heads m (omega (arith, lines.count.0, lines.count.1, slice_get_within rows m row at)) in
      let both = lines.each m row head at at_h in (head, both.0, both.1)

  pub new_heads : (capacity modules places : ℕ) (rows : List (List (PushEnd T))) (heads : List (List (PopEnd T))) → AreNewLines capacity modules places rows heads → (m : ℕ) (head : List (PopEnd T)) → slice_get heads m ≡ Some head → (row : List (PushEnd T)) × IsNewLine capacity row head × (length head ≡ places)
  new_heads capacity modules places rows heads lines m head at =
      let (row, at_r) = each_place_has_one rows m (omega (arith, lines.count.0, lines.count.1, slice_get_within heads m head at)) in
      let both = lines.each m row head at_r at in (row, both.0, both.1)

-- One lane more in a row of new lanes, and one row more.

module _ {T : Type 0} where
  abbrev AreEnds : ℕ → PushEnd T → PopEnd T → Type 0
  AreEnds capacity q p = (p ≡ new_popper p.lane capacity 1) × (q ≡ new_pusher p 0)

  pub line_none : (capacity : ℕ) (qs : List (PushEnd T)) (ps : List (PopEnd T)) → qs ≡ [] → ps ≡ [] → IsNewLine capacity qs ps
  line_none capacity qs ps eq ep = record {
    count = ap length eq ∙ sym (ap length ep);
    each = λ i q p at_q at_p. absurd (none-some q (sym (ap (λ (l : List (PushEnd T)). slice_get l i) eq) ∙ at_q));
  }

  pub line_more : (capacity : ℕ) (qs more_qs : List (PushEnd T)) (ps more_ps : List (PopEnd T)) (q : PushEnd T) (p : PopEnd T) → IsNewLine capacity qs ps → more_qs ≡ qs ++ q ∷ [] → more_ps ≡ ps ++ p ∷ [] → p ≡ new_popper p.lane capacity 1 → q ≡ new_pusher p 0 → IsNewLine capacity more_qs more_ps
  line_more capacity qs more_qs ps more_ps q p h came_q came_p new_p new_q = record {
    count =
        let a = ap length came_q ∙ length_push qs q in
        let b = ap length came_p ∙ length_push ps p in
        omega (arith, a, b, h.count);
    each = λ i x y ex ey. each_snoc (AreEnds capacity) qs ps q p h.count h.each (new_p, new_q) i x y
        (sym (ap (λ (l : List (PushEnd T)). slice_get l i) came_q) ∙ ex) (sym (ap (λ (l : List (PopEnd T)). slice_get l i) came_p) ∙ ey);
  }

  abbrev IsRow : ℕ → ℕ → List (PushEnd T) → List (PopEnd T) → Type 0
  IsRow capacity places row head = IsNewLine capacity row head × (length head ≡ places)

  pub lines_none : (capacity places : ℕ) (rows : List (List (PushEnd T))) (heads : List (List (PopEnd T))) → rows ≡ [] → heads ≡ [] → AreNewLines capacity zero places rows heads
  lines_none capacity places rows heads er eh = record {
    count = (ap length er, ap length eh);
    each = λ m row head at_r at_h. absurd (none-some row (sym (ap (λ (l : List (List (PushEnd T))). slice_get l m) er) ∙ at_r));
  }

  pub lines_more : (capacity n places : ℕ) (rows more_rows : List (List (PushEnd T))) (heads more_heads : List (List (PopEnd T))) (row : List (PushEnd T)) (head : List (PopEnd T)) → AreNewLines capacity n places rows heads → more_rows ≡ rows ++ row ∷ [] → more_heads ≡ heads ++ head ∷ [] → IsNewLine capacity row head → length head ≡ places → AreNewLines capacity (n + 1) places more_rows more_heads
  lines_more capacity n places rows more_rows heads more_heads row head h came_r came_h line long = record {
    count = (
      let a = ap length came_r ∙ length_push rows row in omega (arith, a, h.count.0),
      let b = ap length came_h ∙ length_push heads head in omega (arith, b, h.count.1),
    );
    each = λ m x y ex ey. each_snoc (IsRow capacity places) rows heads row head (h.count.0 ∙ sym h.count.1) h.each (line, long) m x y
        (sym (ap (λ (l : List (List (PushEnd T))). slice_get l m) came_r) ∙ ex) (sym (ap (λ (l : List (List (PopEnd T))). slice_get l m) came_h) ∙ ey);
  }

-- Marks of rows of lanes, so many in each row.

-- the marks of one row more
pub rows_more : (row count : ℕ) → row * count + count ≡ (row + 1) * count
rows_more row count = sym (suc-mul row count) ∙ ap (λ n. n * count) (suc-eq-add-one row)

-- those of a row that is there stand below the end of all
pub row_fits : (row rows count : ℕ) → row < rows → row * count + count ≤ rows * count
row_fits row rows count l =
    let P : ℕ → Type 0 = λ n. n ≤ rows * count in
    subst P (suc-mul row count) (mul-le (suc row) count rows count (omega (arith, l)) (omega arith))

-- 26 modules of 256 places, the door and the orders
pub marks_fit : (modules places : ℕ) → modules ≤ 26 → places ≤ 256 → modules * places + 2 < 4294967296
marks_fit modules places few at_most =
    let most : modules * places ≤ 6656 = mul-le modules places 26 256 few at_most in omega (arith, most)

-- One job more that has its ends.

module _ {E B : Type 0} where
  pub links_none : (ends : LinkEnds) (made : List (Receiver E B)) → made ≡ [] → AreTakenFromLinks ends ends (reverse made)
  links_none ends made e = record {
    inboxes = none_taken (λ (j : Receiver E B). j.inboxes) ends.inboxes.items made e;
    doors = none_taken (λ (j : Receiver E B). j.door) ends.doors.items made e;
    notes = none_taken (λ (j : Receiver E B). j.notes) ends.notes.items made e;
    orders = none_taken (λ (j : Receiver E B). j.order) ends.orders.items made e;
  }

  pub links_more : (was mid after : LinkEnds) (made more : List (Receiver E B)) (j : Receiver E B) → AreTakenFromLinks was mid (reverse made) → AreTakenFromLinks mid after (j ∷ []) → more ≡ made ++ j ∷ [] → AreTakenFromLinks was after (reverse more)
  links_more was mid after made more j h one came = record {
    inboxes = taken_next (λ (j : Receiver E B). j.inboxes) was.inboxes.items mid.inboxes.items after.inboxes.items j.inboxes j made more h.inboxes one.inboxes refl came;
    doors = taken_next (λ (j : Receiver E B). j.door) was.doors.items mid.doors.items after.doors.items j.door j made more h.doors one.doors refl came;
    notes = taken_next (λ (j : Receiver E B). j.notes) was.notes.items mid.notes.items after.notes.items j.notes j made more h.notes one.notes refl came;
    orders = taken_next (λ (j : Receiver E B). j.order) was.orders.items mid.orders.items after.orders.items j.order j made more h.orders one.orders refl came;
  }

  pub links_all : (was left : LinkEnds) (made back : List (Receiver E B)) → AreTakenFromLinks was left (reverse made) → length left.inboxes.items ≡ zero → length left.doors.items ≡ zero → length left.notes.items ≡ zero → length left.orders.items ≡ zero → back ≡ reverse made → AreFromLinks was back
  links_all was left made back h none none_doors none_notes none_orders is = record {
    inboxes = sym (taken_all (λ (j : Receiver E B). j.inboxes) was.inboxes.items left.inboxes.items made back h.inboxes none is);
    doors = sym (taken_all (λ (j : Receiver E B). j.door) was.doors.items left.doors.items made back h.doors none_doors is);
    notes = sym (taken_all (λ (j : Receiver E B). j.notes) was.notes.items left.notes.items made back h.notes none_notes is);
    orders = sym (taken_all (λ (j : Receiver E B). j.order) was.orders.items left.orders.items made back h.orders none_orders is);
  }

  -- one receiver more, of the link before those that are made
  pub receivers_none : (plan : Plan) (k : ℕ) (made : List (Receiver E B)) → made ≡ [] → EachFrom (IsNewReceiver plan) k (map bare (reverse made))
  receivers_none plan k made e = subst (λ (js : List (Receiver E B)). EachFrom (IsNewReceiver plan) k (map bare (reverse js))) (sym e) tt

  pub receivers_more : (plan : Plan) (k next : ℕ) (made more : List (Receiver E B)) (j : Receiver E B) → EachFrom (IsNewReceiver plan) k (map bare (reverse made)) → IsNewReceiver plan next (bare j) → k ≡ suc next → more ≡ made ++ j ∷ [] → EachFrom (IsNewReceiver plan) next (map bare (reverse more))
  receivers_more plan k next made more j h new is came =
      subst (λ (js : List (Receiver E B)). EachFrom (IsNewReceiver plan) next (map bare js)) (sym (ap reverse came ∙ one_more_is_first_in_reverse made j))
      (new, subst (λ (n : ℕ). EachFrom (IsNewReceiver plan) n (map bare (reverse made))) is h)

  pub receivers_all : (plan : Plan) (k : ℕ) (made back : List (Receiver E B)) → EachFrom (IsNewReceiver plan) k (map bare (reverse made)) → k ≡ zero → back ≡ reverse made → EachFrom (IsNewReceiver plan) 0 (map bare back)
  receivers_all plan k made back h none is =
      subst (λ (js : List (Receiver E B)). EachFrom (IsNewReceiver plan) 0 (map bare js)) (sym is)
      (subst (λ (n : ℕ). EachFrom (IsNewReceiver plan) n (map bare (reverse made))) none h)

module _ {B : Type 0} where
  pub modules_none : (ends : ModuleEnds) (made : List (Worker B)) → made ≡ [] → AreTakenFromModules ends ends (reverse made)
  modules_none ends made e = record {
    inboxes = none_taken (λ (w : Worker B). w.inbox) ends.inboxes.items made e;
    queues = none_taken (λ (w : Worker B). w.offers.queues) ends.queues.items made e;
    orders = none_taken (λ (w : Worker B). w.order) ends.orders.items made e;
  }

  pub modules_more : (was mid after : ModuleEnds) (made more : List (Worker B)) (w : Worker B) → AreTakenFromModules was mid (reverse made) → AreTakenFromModules mid after (w ∷ []) → more ≡ made ++ w ∷ [] → AreTakenFromModules was after (reverse more)
  modules_more was mid after made more w h one came = record {
    inboxes = taken_next (λ (w : Worker B). w.inbox) was.inboxes.items mid.inboxes.items after.inboxes.items w.inbox w made more h.inboxes one.inboxes refl came;
    queues = taken_next (λ (w : Worker B). w.offers.queues) was.queues.items mid.queues.items after.queues.items w.offers.queues w made more h.queues one.queues refl came;
    orders = taken_next (λ (w : Worker B). w.order) was.orders.items mid.orders.items after.orders.items w.order w made more h.orders one.orders refl came;
  }

  -- one worker more; the last ones were made first
  pub workers_none : (plan : Plan) (links : ℕ) (made : List (Worker B)) → made ≡ [] → AllByRecursion (IsNewWorker plan links) (map bare_worker (reverse made))
  workers_none plan links made e = subst (λ (ws : List (Worker B)). AllByRecursion (IsNewWorker plan links) (map bare_worker (reverse ws))) (sym e) tt

  pub workers_more : (plan : Plan) (links : ℕ) (made more : List (Worker B)) (w : Worker B) → AllByRecursion (IsNewWorker plan links) (map bare_worker (reverse made)) → IsNewWorker plan links (bare_worker w) → more ≡ made ++ w ∷ [] → AllByRecursion (IsNewWorker plan links) (map bare_worker (reverse more))
  workers_more plan links made more w h new came =
      subst (λ (ws : List (Worker B)). AllByRecursion (IsNewWorker plan links) (map bare_worker ws)) (sym (ap reverse came ∙ one_more_is_first_in_reverse made w)) (new, h)

-- The letters of modules, one by one.

-- one letter more, where it is served
pub served_more : (m : Modules) (letter : ℕ) (was is : List ℕ) → 65 ≤ letter → letter < 91 → was ≡ filter (serves m) (take (letter - 65) (range_with_len 65 26)) → is ≡ was ++ cond (serves m letter) (letter ∷ []) [] → is ≡ filter (serves m) (take (letter + 1 - 65) (range_with_len 65 26))
served_more m letter was is low high e h =
    let i : letter + 1 - 65 ≡ (letter - 65) + 1 = omega arith in
    let at : get_or (range_with_len 65 26) (letter - 65) 0 ≡ letter = get_or-range_with_len 65 26 (letter - 65) 0 (omega arith) ∙ (let k : 65 + (letter - 65) ≡ letter = omega arith in k) in
    h ∙ ap (λ (l : List ℕ). l ++ cond (serves m letter) (letter ∷ []) []) e
    ∙ ap (λ (x : ℕ). filter (serves m) (take (letter - 65) (range_with_len 65 26)) ++ cond (serves m x) (x ∷ []) []) (sym at)
    ∙ sym (filter_more (serves m) (range_with_len 65 26) (letter - 65) 0 (omega (arith, length-range_with_len 65 26)))
    ∙ ap (λ (x : ℕ). filter (serves m) (take x (range_with_len 65 26))) (sym i)

-- there are at most 26
pub few_modules : (m : Modules) → length (letters_of m) ≤ 26
few_modules m = omega (arith, length-filter (serves m) (range_with_len 65 26), count_by-le-length (serves m) (range_with_len 65 26), length-range_with_len 65 26)

-- a module is a parrot where the plan says so
pub setup_is : (plan : Plan) (letter : ℕ) (parrot : Bool) (setup : module_items.Setup) → setup ≡ record { places = plan.places; parrot = parrot; limit = plan.limit } → parrot ≡ serves plan.parrots letter → setup ≡ module_setup plan letter
setup_is plan letter parrot setup made is = made ∙ ap (λ (b : Bool). record { places = plan.places; parrot = b; limit = plan.limit }) is
