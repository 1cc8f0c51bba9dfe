-- Lists whose first places were changed in the same way.
use Rattle.std.proofs.Common.{◌≡◌, ◌≢◌, ℕ, zero, suc, ◌<◌, ◌≤◌, List, [], ◌∷◌, map, length, set, get_or, None, Some, refl, sym, subst, ap, ◌∙◌, arith, inl, inr, Bool, true, false, ◌++◌, reverse, append_assoc, append-nil}
use Rattle.std.specs.List.{slice_get, AllZip, list_any}
use Rattle.std.proofs.lemmas.Bool.Decides.{eqb_tells}
use Rattle.std.proofs.lemmas.Option.{same_Some}
use Rattle.m17_lane.specs.Ends.{PushEnd, PopEnd, TrailEnd}
use Rattle.m17_lane.specs.Trails.{AreTrailsOfOnes}
use Rattle.std.specs.Prelude.{◌||◌}
use Rattle.std.proofs.lemmas.List.{map-append, reverse-append}
use Rattle.std.proofs.lemmas.List.Folds.{list_any-append}
use Rattle.std.proofs.Math.Bool.{or_assoc}
use Rattle.m17_receiver.specs.declared.receiver.Receiver.{Receiver}
use Rattle.m17_worker.specs.declared.worker.Worker.{Worker}
use Rattle.m17_reflect.specs.declared.receivers.ReceiverParts.{ReceiverParts}
use Rattle.m17_reflect.specs.declared.workers.WorkerParts.{WorkerParts}
use Rattle.m17_reflect.specs.Parts.{AreReceiverParts, HasReceiverRoom, AreWorkerParts, HasWorkerRoom}

module _ {A : Type 0} (f : A → A) where
  -- f was applied at the first k places
  abbrev pub upto : ℕ → List A → List A
  upto zero xs = xs
  upto (suc k) [] = []
  upto (suc k) (x ∷ xs) = f x ∷ upto k xs

  pub upto_all : (xs : List A) (k : ℕ) → k ≡ length xs → upto k xs ≡ map f xs
  upto_all [] zero e = refl
  upto_all [] (suc k) e = refl
  upto_all (x ∷ xs) zero e = absurd (omega arith)
  upto_all (x ∷ xs) (suc k) e = ap (λ (l : List A). f x ∷ l) (upto_all xs k (omega arith))

  pub upto_length : (xs : List A) (k : ℕ) → length (upto k xs) ≡ length xs
  upto_length [] zero = refl
  upto_length [] (suc k) = refl
  upto_length (x ∷ xs) zero = refl
  upto_length (x ∷ xs) (suc k) = ap suc (upto_length xs k)

  pub upto_at : (xs : List A) (k : ℕ) → slice_get (upto k xs) k ≡ slice_get xs k
  upto_at [] zero = refl
  upto_at [] (suc k) = refl
  upto_at (x ∷ xs) zero = refl
  upto_at (x ∷ xs) (suc k) = upto_at xs k

  upto_suc : (xs : List A) (k : ℕ) (x : A) → slice_get xs k ≡ Some x → set (upto k xs) k (f x) ≡ upto (suc k) xs
  upto_suc [] zero x e = refl
  upto_suc [] (suc k) x e = refl
  upto_suc (y ∷ xs) zero x e = let same : x ≡ y = cc in ap (λ (z : A). f z ∷ xs) same
  upto_suc (y ∷ xs) (suc k) x e = ap (λ (l : List A). f y ∷ l) (upto_suc xs k x e)

  -- one place more
  pub upto_next : (xs now : List A) (k next : ℕ) (x y : A) → next ≡ suc k → now ≡ upto k xs → slice_get xs k ≡ Some x → y ≡ f x → set now k y ≡ upto next xs
  upto_next xs now k next x y n e is to =
      ap (λ (l : List A). set l k y) e ∙ ap (λ (z : A). set (upto k xs) k z) to ∙ upto_suc xs k x is
      ∙ ap (λ (m : ℕ). upto m xs) (sym n)

  -- a place that is not changed yet
  pub upto_found : (xs now : List A) (k : ℕ) (x : A) → now ≡ upto k xs → slice_get now k ≡ Some x → slice_get xs k ≡ Some x
  upto_found xs now k x e is = sym (upto_at xs k) ∙ ap (λ (l : List A). slice_get l k) (sym e) ∙ is

module _ {A : Type 0} where
  pub set_else : (xs : List A) (m a : ℕ) (y : A) → a ≢ m → slice_get (set xs m y) a ≡ slice_get xs a
  set_else [] m a y ne = refl
  set_else (x ∷ xs) zero zero y ne = absurd (ne refl)
  set_else (x ∷ xs) zero (suc a) y ne = refl
  set_else (x ∷ xs) (suc m) zero y ne = refl
  set_else (x ∷ xs) (suc m) (suc a) y ne = set_else xs m a y (λ e. ne (ap suc e))

  pub set_here : (xs : List A) (m : ℕ) (y : A) → m < length xs → slice_get (set xs m y) m ≡ Some y
  set_here [] m y lt = absurd (omega arith)
  set_here (x ∷ xs) zero y lt = refl
  set_here (x ∷ xs) (suc m) y lt = set_here xs m y (omega arith)

  pub not_found : (xs : List A) (m : ℕ) → length xs ≤ m → slice_get xs m ≡ None
  not_found [] m past = refl
  not_found (x ∷ xs) zero past = absurd (omega arith)
  not_found (x ∷ xs) (suc m) past = not_found xs m (omega arith)

  pub read_is : (xs : List A) (m : ℕ) (y : A) → m < length xs → y ≡ get_or xs m y → slice_get xs m ≡ Some y
  read_is [] m y lt e = absurd (omega arith)
  read_is (x ∷ xs) zero y lt e = ap (λ (z : A). Some z) (sym e)
  read_is (x ∷ xs) (suc m) y lt e = read_is xs m y (omega arith) e

  pub found_below : (xs : List A) (m : ℕ) (y : A) → slice_get xs m ≡ Some y → m < length xs
  found_below [] m y e = absurd (let bad : ⊥ = cc in bad)
  found_below (x ∷ xs) zero y e = omega arith
  found_below (x ∷ xs) (suc m) y e = let lt = found_below xs m y e in omega arith

module _ {A B : Type 0} (f : A → B) where
  pub map_put : (xs : List A) (m : ℕ) (y : A) → map f (set xs m y) ≡ set (map f xs) m (f y)
  map_put [] m y = refl
  map_put (x ∷ xs) zero y = refl
  map_put (x ∷ xs) (suc m) y = ap (λ (l : List B). f x ∷ l) (map_put xs m y)

  pub map_get : (xs : List A) (m : ℕ) (y : A) → slice_get xs m ≡ Some y → slice_get (map f xs) m ≡ Some (f y)
  map_get [] m y e = absurd (let bad : ⊥ = cc in bad)
  map_get (x ∷ xs) zero y e = let is : x ≡ y = cc in ap (λ (z : A). Some (f z)) is
  map_get (x ∷ xs) (suc m) y e = map_get xs m y e

  pub map_count : (xs : List A) → length (map f xs) ≡ length xs
  map_count [] = refl
  map_count (x ∷ xs) = ap suc (map_count xs)

module _ {A B : Type 0} (R : A → B → Type 0) where
  pub zip_at : (xs : List A) (ys : List B) → AllZip R xs ys → (m : ℕ) (x : A) (y : B) → slice_get xs m ≡ Some x → slice_get ys m ≡ Some y → R x y
  zip_at [] ys h m x y ex ey = absurd (let bad : ⊥ = cc in bad)
  zip_at (a ∷ xs) [] h m x y ex ey = absurd h
  zip_at (a ∷ xs) (b ∷ ys) h zero x y ex ey =
      let first : a ≡ x = cc in let second : b ≡ y = cc in
      subst (λ (u : A). R u y) first (subst (λ (v : B). R a v) second h.0)
  zip_at (a ∷ xs) (b ∷ ys) h (suc m) x y ex ey = zip_at xs ys h.1 m x y ex ey

  pub zip_length : (xs : List A) (ys : List B) → AllZip R xs ys → length ys ≡ length xs
  zip_length [] [] h = refl
  zip_length [] (b ∷ ys) h = absurd h
  zip_length (a ∷ xs) [] h = absurd h
  zip_length (a ∷ xs) (b ∷ ys) h = ap suc (zip_length xs ys h.1)

-- rows of the same lengths at one place
pub same_rows : {X Y A B : Type 0} (f : X → List A) (g : Y → List B) (xs : List X) (ys : List Y) (k : ℕ) (one : List A) (other : List B) → map (λ x. length (f x)) xs ≡ map (λ y. length (g y)) ys → slice_get (map f xs) k ≡ Some one → slice_get (map g ys) k ≡ Some other → length one ≡ length other
same_rows f g [] ys k one other e eo et = absurd (let bad : ⊥ = cc in bad)
same_rows f g (x ∷ xs) [] k one other e eo et = absurd (let bad : ⊥ = cc in bad)
same_rows f g (x ∷ xs) (y ∷ ys) zero one other e eo et =
    let first : length (f x) ≡ length (g y) = cc in let here : f x ≡ one = cc in let there : g y ≡ other = cc in
    sym (ap length here) ∙ first ∙ ap length there
same_rows f g (x ∷ xs) (y ∷ ys) (suc k) one other e eo et =
    let rest : map (λ x. length (f x)) xs ≡ map (λ y. length (g y)) ys = cc in same_rows f g xs ys k one other rest eo et

-- How rows of lanes are taken back, row by row.

module _ {A : Type 0} where
  -- from this place on nothing was changed
  pub record SameFrom (k : ℕ) (xs now : List A) : Type 0 where
    pub each : (m : ℕ) → k ≤ m → slice_get now m ≡ slice_get xs m

  pub same_later : (xs now : List A) (k next : ℕ) (y : A) → next ≡ suc k → SameFrom k xs now → SameFrom next xs (set now k y)
  same_later xs now k next y one h = record {
    each = λ m le. set_else now k m y (λ e. omega arith) ∙ h.each m (omega arith);
  }

module _ {T : Type 0} where
  -- the first k rows are taken back
  pub record Finished (k : ℕ) (pushers : List (List (PushEnd T))) (poppers : List (List (PopEnd T)))
      (trails : List (List (TrailEnd T))) : Type 0 where
    pub each : (m : ℕ) (qs : List (PushEnd T)) (ps : List (PopEnd T)) (ts : List (TrailEnd T)) → m < k
        → slice_get pushers m ≡ Some qs → slice_get poppers m ≡ Some ps → slice_get trails m ≡ Some ts → AreTrailsOfOnes qs ps ts

  pub finished_none : (pushers : List (List (PushEnd T))) (poppers : List (List (PopEnd T))) (trails : List (List (TrailEnd T))) → Finished 0 pushers poppers trails
  finished_none pushers poppers trails = record { each = λ m qs ps ts lt eq ep et. absurd (omega arith) }

  pub finished_more : (pushers : List (List (PushEnd T))) (poppers : List (List (PopEnd T))) (trails : List (List (TrailEnd T))) (k next : ℕ) (qs : List (PushEnd T)) (ps : List (PopEnd T)) (ts : List (TrailEnd T)) → next ≡ suc k → slice_get pushers k ≡ Some qs → slice_get poppers k ≡ Some ps → k < length trails → AreTrailsOfOnes qs ps ts → Finished k pushers poppers trails → Finished next pushers poppers (set trails k ts)
  finished_more pushers poppers trails k next qs ps ts one hq hp lt given h = record {
    each = λ m qs' ps' ts' less eq ep et. elim (eqb_tells m k) [
      | inl is ↦
          let here = sym is.1 in
          let sq : qs ≡ qs' = same_Some qs qs' (sym hq ∙ ap (λ (n : ℕ). slice_get pushers n) here ∙ eq) in
          let sp : ps ≡ ps' = same_Some ps ps' (sym hp ∙ ap (λ (n : ℕ). slice_get poppers n) here ∙ ep) in
          let st : ts ≡ ts' = same_Some ts ts' (sym (set_here trails k ts lt) ∙ ap (λ (n : ℕ). slice_get (set trails k ts) n) here ∙ et) in
          subst (λ q. AreTrailsOfOnes q ps' ts') sq (subst (λ p. AreTrailsOfOnes qs p ts') sp (subst (λ t. AreTrailsOfOnes qs ps t) st given))
      | inr isnt ↦ h.each m qs' ps' ts' (let ne = isnt.1 in omega arith) eq ep (sym (set_else trails k m ts isnt.1) ∙ et)
    ];
  }

-- Parts of jobs behind parts of jobs.

or_nothing : (b : Bool) → b ≡ (b || false)
or_nothing true = refl
or_nothing false = refl

module _ {X A : Type 0} where
  pub behind : (f : X → A) (before after next : List A) (xs : List X) (x : X) → after ≡ before ++ map f xs → next ≡ after ++ f x ∷ [] → next ≡ before ++ map f (xs ++ x ∷ [])
  behind f before after next xs x h e =
      e ∙ ap (λ (l : List A). l ++ f x ∷ []) h ∙ append_assoc before (map f xs) (f x ∷ [])
      ∙ ap (λ (l : List A). before ++ l) (sym (map-append f xs (x ∷ [])))

module _ {X : Type 0} where
  any_more : (p : X → Bool) (before after next : Bool) (xs : List X) (x : X) → after ≡ (before || list_any p xs) → next ≡ (after || list_any p (x ∷ [])) → next ≡ (before || list_any p (xs ++ x ∷ []))
  any_more p before after next xs x h e =
      e ∙ ap (λ (b : Bool). b || list_any p (x ∷ [])) h ∙ or_assoc before (list_any p xs) (list_any p (x ∷ []))
      ∙ ap (λ (b : Bool). before || b) (sym (list_any-append p xs (x ∷ [])))

  reverse_more : (xs : List X) (x : X) → reverse (xs ++ x ∷ []) ≡ x ∷ reverse xs
  reverse_more xs x = reverse-append xs (x ∷ [])

  twice : (xs : List X) → reverse (reverse xs) ≡ xs
  twice [] = refl
  twice (x ∷ xs) = ap reverse (reverse-append (x ∷ []) xs) ∙ reverse_more (reverse xs) x ∙ ap (λ (l : List X). x ∷ l) (twice xs)

  pub turned : (xs now : List X) → now ≡ reverse xs → xs ≡ [] ++ reverse now
  turned xs now e = sym (ap reverse e ∙ twice xs)

  -- one job more is taken
  pub one_taken : (all gone jobs rest : List X) (x : X) → all ≡ gone ++ reverse jobs → jobs ≡ rest ++ x ∷ [] → all ≡ (gone ++ x ∷ []) ++ reverse rest
  one_taken all gone jobs rest x h e =
      h ∙ ap (λ (l : List X). gone ++ reverse l) e ∙ ap (λ (l : List X). gone ++ l) (reverse_more rest x)
      ∙ sym (append_assoc gone (x ∷ []) (reverse rest))

  -- no job is left
  pub all_taken : (all gone jobs : List X) → all ≡ gone ++ reverse jobs → length jobs ≡ 0 → gone ≡ all
  all_taken all gone [] h e = sym (h ∙ append-nil gone)
  all_taken all gone (x ∷ jobs) h e = absurd (omega arith)

module _ {E B : Type 0} where
  pub receivers_none : (p : ReceiverParts E B) → AreReceiverParts [] p p
  receivers_none p = record {
    ears = sym (append-nil p.ears.items);
    traces = sym (append-nil p.traces.items);
    columns = sym (append-nil p.columns.items);
    doors = sym (append-nil p.doors.items);
    noted = sym (append-nil p.noted.items);
    orders = sym (append-nil p.orders.items);
    tapes = sym (append-nil p.tapes.items);
    lost = or_nothing p.lost;
    failed = or_nothing p.failed;
  }

  pub receivers_more : (xs : List (Receiver E B)) (x : Receiver E B) (p q r : ReceiverParts E B) → AreReceiverParts xs p q → AreReceiverParts (x ∷ []) q r → AreReceiverParts (xs ++ x ∷ []) p r
  receivers_more xs x p q r h g = record {
    ears = behind (λ (j : Receiver E B). j.ear) p.ears.items q.ears.items r.ears.items xs x h.ears g.ears;
    traces = behind (λ (j : Receiver E B). j.trace) p.traces.items q.traces.items r.traces.items xs x h.traces g.traces;
    columns = behind (λ (j : Receiver E B). j.inboxes) p.columns.items q.columns.items r.columns.items xs x h.columns g.columns;
    doors = behind (λ (j : Receiver E B). j.door) p.doors.items q.doors.items r.doors.items xs x h.doors g.doors;
    noted = behind (λ (j : Receiver E B). j.notes) p.noted.items q.noted.items r.noted.items xs x h.noted g.noted;
    orders = behind (λ (j : Receiver E B). j.order) p.orders.items q.orders.items r.orders.items xs x h.orders g.orders;
    tapes = behind (λ (j : Receiver E B). j.tape) p.tapes.items q.tapes.items r.tapes.items xs x h.tapes g.tapes;
    lost = any_more (λ (j : Receiver E B). j.lost) p.lost q.lost r.lost xs x h.lost g.lost;
    failed = any_more (λ (j : Receiver E B). j.trace_failed) p.failed q.failed r.failed xs x h.failed g.failed;
  }

  pub receiver_room : (n : ℕ) (p : ReceiverParts E B) → 1 ≤ n → HasReceiverRoom n p → HasReceiverRoom 1 p
  receiver_room n p le h = record {
    ears = omega (arith, h.ears);
    traces = omega (arith, h.traces);
    columns = omega (arith, h.columns);
    doors = omega (arith, h.doors);
    noted = omega (arith, h.noted);
    orders = omega (arith, h.orders);
    tapes = omega (arith, h.tapes);
  }

module _ {B : Type 0} where
  pub workers_none : (p : WorkerParts B) → AreWorkerParts [] p p
  workers_none p = record {
    books = sym (append-nil p.books.items);
    inboxes = sym (append-nil p.inboxes.items);
    queues = sym (append-nil p.queues.items);
    orders = sym (append-nil p.orders.items);
    tapes = sym (append-nil p.tapes.items);
    missed = sym (append-nil p.missed.items);
    admitted = sym (append-nil p.admitted.items);
    failed = or_nothing p.failed;
  }

  pub workers_more : (xs : List (Worker B)) (x : Worker B) (p q r : WorkerParts B) → AreWorkerParts xs p q → AreWorkerParts (x ∷ []) q r → AreWorkerParts (xs ++ x ∷ []) p r
  workers_more xs x p q r h g = record {
    books = behind (λ (j : Worker B). j.book) p.books.items q.books.items r.books.items xs x h.books g.books;
    inboxes = behind (λ (j : Worker B). j.inbox) p.inboxes.items q.inboxes.items r.inboxes.items xs x h.inboxes g.inboxes;
    queues = behind (λ (j : Worker B). j.offers.queues) p.queues.items q.queues.items r.queues.items xs x h.queues g.queues;
    orders = behind (λ (j : Worker B). j.order) p.orders.items q.orders.items r.orders.items xs x h.orders g.orders;
    tapes = behind (λ (j : Worker B). j.tape) p.tapes.items q.tapes.items r.tapes.items xs x h.tapes g.tapes;
    missed = behind (λ (j : Worker B). j.offers.missed) p.missed.items q.missed.items r.missed.items xs x h.missed g.missed;
    admitted = behind (λ (j : Worker B). j.module.admitted) p.admitted.items q.admitted.items r.admitted.items xs x h.admitted g.admitted;
    failed = any_more (λ (j : Worker B). j.book_failed) p.failed q.failed r.failed xs x h.failed g.failed;
  }

  pub worker_room : (n : ℕ) (p : WorkerParts B) → 1 ≤ n → HasWorkerRoom n p → HasWorkerRoom 1 p
  worker_room n p le h = record {
    books = omega (arith, h.books);
    inboxes = omega (arith, h.inboxes);
    queues = omega (arith, h.queues);
    orders = omega (arith, h.orders);
    tapes = omega (arith, h.tapes);
    missed = omega (arith, h.missed);
    admitted = omega (arith, h.admitted);
  }
