-- The end of a watched board, step by step.
use Rattle.std.proofs.Common.{◌≡◌, ◌≢◌, ◌⊎◌, ⊎_elim, ℕ, zero, suc, ◌+◌, ◌-◌, ◌<◌, ◌≤◌, Bool, true, false, cond, List, [], ◌∷◌, ◌++◌, length, map, filter, All, Contains, Some, slice_get, slice_index, slice_set, get_or, refl, sym, ap, ◌∙◌, subst, inl, inr, arith, append-nil, length-append}
use Rattle.std.specs.List.{AllZip, range_with_len}
use Rattle.std.proofs.lemmas.Option.{same_Some, none-some, slice_get_within}
use Rattle.std.proofs.lemmas.List.{get_or-set_same}
use Rattle.std.proofs.lemmas.List.Elements.{All-contains, filter-append}
use Rattle.m17_lists.proofs.Ranges.{range_ends_in_its_last}
use Rattle.m17_lists.proofs.Places.{mapped_stands_there}
use Rattle.m17_ports.specs.Book.{BookTold}
use Rattle.m17_ports.specs.Laws.{BooksAreWrittenInTurn}
use Rattle.m17_control.specs.Modules.{serves, letters_of, letters_before}
use Rattle.m17_control.specs.declared.modules.Modules.{Modules}
use Rattle.m17_book.specs.declared.record.Record.{Record}
use Rattle.m17_board.specs.Glance.{glance_of, IsGlanceWithin}
use Rattle.m17_board.specs.Ends.{PostEnd, EyeEnd, SawFirstParts}
use Rattle.m17_board.specs.declared.glance.Glance.{Glance}
use Rattle.m17_board.specs.Shows.{Shown, shown_of, IsPlaceOf, WritesLine, Watched, WatchDid}
use Rattle.m17_board.specs.Written.{BoardLine, HasSeen, WroteBy, TellsFirstPart, TellFirstParts, ShowsBoard}
use Rattle.m17_board.specs.Ending.{IsFresh, TellsIn, GoesOn, HasLast}
use Rattle.m17_board.specs.declared.watch.Watch.{Watch}
use Rattle.m17_board.proofs.Lines.{written, retell, lines_of, tell_first, index_set}

pub map_get : {A B : Type 0} (f : A → B) (xs : List A) (i : ℕ) (y : B) → slice_get (map f xs) i ≡ Some y → (x : A) × (slice_get xs i ≡ Some x) × (y ≡ f x)
map_get f [] i y at = absurd (none-some y at)
map_get f (x ∷ xs) zero y at = (x, refl, sym (same_Some (f x) y at))
map_get f (x ∷ xs) (suc i) y at = map_get f xs i y at

-- letters up to a letter
pub before_suc : (m : Modules) (l : ℕ) → 65 ≤ l → letters_before m (suc l) ≡ letters_before m l ++ filter (serves m) (l ∷ [])
before_suc m l h =
    let e : suc l - 65 ≡ suc (l - 65) = omega arith in
    let f : 65 + (l - 65) ≡ l = omega arith in
    ap (λ (n : ℕ). filter (serves m) (range_with_len 65 n)) e ∙ ap (filter (serves m)) (range_ends_in_its_last 65 (l - 65))
    ∙ filter-append (serves m) (range_with_len 65 (l - 65)) ((65 + (l - 65)) ∷ []) ∙ ap (λ (x : ℕ). letters_before m l ++ filter (serves m) (x ∷ [])) f

one_letter : (m : Modules) (l : ℕ) (b : Bool) → serves m l ≡ b → length (filter (serves m) (l ∷ [])) ≡ cond b 1 0
one_letter m l b e = ap (λ (t : Bool). length (cond t (l ∷ []) [])) e ∙ go b
  where
    go : (t : Bool) → length (cond t (l ∷ []) []) ≡ cond t 1 0
    go true = refl
    go false = refl

pub count_suc : (m : Modules) (l : ℕ) (b : Bool) → 65 ≤ l → serves m l ≡ b → length (letters_before m (suc l)) ≡ length (letters_before m l) + cond b 1 0
count_suc m l b h e =
    ap length (before_suc m l h) ∙ length-append (letters_before m l) (filter (serves m) (l ∷ [])) ∙ ap (λ (n : ℕ). length (letters_before m l) + n) (one_letter m l b e)

grows : (m : Modules) (l k : ℕ) → 65 ≤ l → length (letters_before m l) ≤ length (letters_before m (l + k))
grows m l zero h = let e : l + 0 ≡ l = omega arith in let f = ap (λ (n : ℕ). length (letters_before m n)) e in omega arith
grows m l (suc k) h =
    let rest = grows m l k h in
    let e : l + suc k ≡ suc (l + k) = omega arith in
    let f = ap (λ (n : ℕ). length (letters_before m n)) e in
    let g = ap length (before_suc m (l + k) (omega arith)) ∙ length-append (letters_before m (l + k)) (filter (serves m) ((l + k) ∷ [])) in
    omega arith

-- the place of a module that is there is below their number
pub below_all : (m : Modules) (l : ℕ) → 65 ≤ l → l < 91 → serves m l ≡ true → length (letters_before m l) < length (letters_of m)
below_all m l low high e =
    let on = grows m (suc l) (90 - l) (omega arith) in
    let last : suc l + (90 - l) ≡ 91 = omega arith in
    let all : length (letters_before m (suc l + (90 - l))) ≡ length (letters_of m) = ap (λ (n : ℕ). length (letters_before m n)) last in
    let more : length (letters_before m (suc l)) ≡ length (letters_before m l) + 1 = count_suc m l true low e in
    omega arith

-- there are 26 letters at most
upto : (m : Modules) (k : ℕ) → length (letters_before m (65 + k)) ≤ k
upto m zero = let none : length (letters_before m (65 + 0)) ≡ 0 = refl in omega arith
upto m (suc k) =
    let rest = upto m k in
    let next = count_suc m (65 + k) (serves m (65 + k)) (omega arith) refl in
    let one = at_most_one (serves m (65 + k)) in
    let step : 65 + suc k ≡ suc (65 + k) = omega arith in
    let same : length (letters_before m (65 + suc k)) ≡ length (letters_before m (suc (65 + k))) = ap (λ (n : ℕ). length (letters_before m n)) step in
    omega arith
  where
    at_most_one : (b : Bool) → cond b 1 0 ≤ 1
    at_most_one true = omega arith
    at_most_one false = omega arith

pub few : (m : Modules) → length (letters_of m) ≤ 26
few m = upto m 26

-- the place of the next module
pub next_place : (m : Modules) (l : ℕ) (b : Bool) (place : ℕ) → 65 ≤ l → serves m l ≡ b → place ≡ length (letters_before m l) → place + cond b 1 0 ≡ length (letters_before m (l + 1))
next_place m l b place h e at =
    let one : suc l ≡ l + 1 = omega arith in
    let same : length (letters_before m (suc l)) ≡ length (letters_before m (l + 1)) = ap (λ (n : ℕ). length (letters_before m n)) one in
    ap (λ (n : ℕ). n + cond b 1 0) at ∙ sym (count_suc m l b h e) ∙ same

-- nothing goes on, or one line does
pub goes_nowhere : {B L : Type 0} (told : B → BookTold L) (modules : Modules) (glances : List Glance) (a : Shown B) → GoesOn told modules glances a a
goes_nowhere told modules glances a eyes from lines w = (lines, w)

pub goes_on : {B L : Type 0} (told : B → BookTold L) (modules : Modules) (glances : List Glance) (a b c : Shown B) → GoesOn told modules glances a b → GoesOn told modules glances b c → GoesOn told modules glances a c
goes_on told modules glances a b c f g eyes from lines w = let t = f eyes from lines w in g eyes from t.0 t.1

pub goes_by_line : {B L : Type 0} (told : B → BookTold L) (modules : Modules) (glances : List Glance) (a b : Shown B) (letter place : ℕ) (glance : Glance) → BooksAreWrittenInTurn L → IsPlaceOf modules letter place
    → slice_get glances place ≡ Some glance → WritesLine told letter place glance a b → GoesOn told modules glances a b
goes_by_line told modules glances a b letter place glance law at is writes eyes from lines w =
    (_, written told modules from law (TellsIn eyes glances) a b lines letter place glance w at (inr is) writes)

-- one place more
pub last_more : (glances : List Glance) (last : List ℕ) (place : ℕ) (glance : Glance) → slice_get glances place ≡ Some glance → glance.records ≤ slice_index last place → HasLast glances last place
    → HasLast glances last (place + 1)
last_more glances last place glance at le h p g lt is =
    ⊎_elim (λ (below : p < place). h p g below is)
    (λ (same : p ≡ place). let e : g ≡ glance = same_Some g glance (sym is ∙ ap (slice_get glances) same ∙ at) in
    subst (λ (x : Glance). x.records ≤ slice_index last p) (sym e) (subst (λ (q : ℕ). glance.records ≤ slice_index last q) (sym same) le))
    (split p place lt)
  where
    split : (p q : ℕ) → p < q + 1 → (p < q) ⊎ (p ≡ q)
    split zero zero h = inr refl
    split zero (suc q) h = inl (omega arith)
    split (suc p) zero h = absurd (omega arith)
    split (suc p) (suc q) h = ⊎_elim (λ (a : p < q). inl (omega arith)) (λ (e : p ≡ q). inr (ap suc e)) (split p q (omega arith))

-- with no fewer numbers, as one of them was set to more
pub last_kept : (glances : List Glance) (last last' : List ℕ) (count : ℕ) → ((p : ℕ) → slice_index last p ≤ slice_index last' p) → HasLast glances last count → HasLast glances last' count
last_kept glances last last' count le h p g lt is = let a = h p g lt is in let b = le p in omega arith

none_longer : (l : List Record) → length l ≤ 0 → l ≡ []
none_longer [] h = refl
none_longer (x ∷ l) h = absurd (omega arith)

-- a first part with as many records is all
pub whole_part : (posted : List Record) (g : Glance) → IsGlanceWithin posted g → length posted ≤ g.records → g ≡ glance_of posted
whole_part posted g h le =
    let part = h.0 in
    let rest = h.1.0 in
    let e : posted ≡ part ++ rest = h.1.1 in
    let size : g.records ≡ length part = ap (λ (x : Glance). x.records) h.2 in
    let none : length rest ≤ 0 = omega (arith, ap length e, length-append part rest) in
    h.2 ∙ ap glance_of (sym (append-nil part) ∙ ap (λ (l : List Record). part ++ l) (sym (none_longer rest none)) ∙ sym e)

module _ (posters : List PostEnd) (eyes : List EyeEnd) (glances : List Glance) (all : glances ≡ map (λ (p : PostEnd). glance_of p.posted) posters) (saw : AllZip SawFirstParts posters eyes) where
  first_parts : (place : ℕ) (g : Glance) → TellsIn eyes glances place g → TellsFirstPart posters place g
  first_parts place g (inl seen) = tell_first posters eyes place g saw seen
  first_parts place g (inr is) =
      let t = map_get (λ (p : PostEnd). glance_of p.posted) posters place g (sym (ap (λ (l : List Glance). slice_get l place) all) ∙ is) in
      (t.0, t.1, (t.0.posted, ([], sym (append-nil t.0.posted)), t.2))

  module _ {B L : Type 0} (told : B → BookTold L) (modules : Modules) (from to : Shown B) (lines : List BoardLine) (w : WroteBy (TellsIn eyes glances) told modules from to lines)
      (zero_before : (place : ℕ) → slice_index from.last place ≡ 0) where
    tell : TellFirstParts posters lines
    tell k d lt = first_parts _ _ (w.tell k d lt)

    of_poster : (place : ℕ) (poster : PostEnd) → slice_get posters place ≡ Some poster → (line : BoardLine) → line.place ≡ place → TellsFirstPart posters line.place line.glance
        → IsGlanceWithin poster.posted line.glance
    of_poster place poster at line here t =
        let same : t.0 ≡ poster = same_Some t.0 poster (sym t.1 ∙ ap (slice_get posters) here ∙ at) in
        subst (λ (p : PostEnd). IsGlanceWithin p.posted line.glance) same t.2

    none : (place : ℕ) (poster : PostEnd) → slice_get posters place ≡ Some poster → poster.posted ≡ [] → All (λ line. line.place ≢ place) lines
    none place poster at empty k d lt here =
        let line = get_or lines k d in
        let h = of_poster place poster at line here (tell k d lt) in
        let e : [] ≡ h.0 ++ h.1.0 = sym empty ∙ h.1.1 in
        let over = w.above k d lt in
        omega (arith, ap length e, length-append h.0 h.1.0, ap (λ (x : Glance). x.records) h.2, over)

    each : HasLast glances to.last (length glances) → (place : ℕ) (poster : PostEnd) → slice_get posters place ≡ Some poster → poster.posted ≢ []
        → (line : BoardLine) × Contains lines line × (line.place ≡ place) × (line.glance ≡ glance_of poster.posted)
    each last place poster at some =
        let is : slice_get glances place ≡ Some (glance_of poster.posted) = ap (λ (l : List Glance). slice_get l place) all ∙ mapped_stands_there (λ (p : PostEnd). glance_of p.posted) posters place poster at in
        let most : length poster.posted ≤ slice_index to.last place = last place (glance_of poster.posted) (slice_get_within glances place _ is) is in
        ⊎_elim
        (λ (e : slice_index to.last place ≡ slice_index from.last place). absurd (some (none_longer poster.posted (omega (arith, most, e, zero_before place)))))
        (λ (h : (line : BoardLine) × Contains lines line × (line.place ≡ place) × (slice_index to.last place ≡ line.glance.records)).
        let part = of_poster place poster at h.0 h.2 (All-contains (λ (l : BoardLine). TellsFirstPart posters l.place l.glance) lines h.0 tell h.1) in
        (h.0, h.1, h.2, whole_part poster.posted h.0.glance part (omega (arith, most, h.3))))
        (w.last place)

    pub shows : (to.failed ≡ false → HasLast glances to.last (length glances)) → ShowsBoard modules posters to.failed (told from.book) (told to.book)
    shows last = record {
      lines = lines;
      text = w.text;
      failed_line = w.failed_line;
      begin = record { of_modules = w.of_modules; rise = w.rise; tell = tell; none = none };
      whole = λ ok. record { of_modules = w.of_modules; rise = w.rise; tell = tell; none = none; all = each (last ok) };
    }

-- the whole end of a watch
pub shown_all : {B L T : Type 0} (told : B → BookTold L) (j k : Watch B T) (posters : List PostEnd) (glances : List Glance) (rest : Shown B) → BooksAreWrittenInTurn L
    → glances ≡ map (λ (p : PostEnd). glance_of p.posted) posters → AllZip SawFirstParts posters k.eyes.items
    → (eyes : List EyeEnd) → GoesOn told k.modules glances record (shown_of k) { eyes = eyes } rest → (rest.failed ≡ false → HasLast glances rest.last (length glances))
    → WatchDid told j k → IsFresh j → ShowsBoard k.modules posters rest.failed (told j.book) (told rest.book)
shown_all told j k posters glances rest law all saw eyes on last did fresh =
    let wrote = lines_of told k.modules (shown_of j) law fresh.going (shown_of k) (subst (λ (m : Modules). Watched told m (shown_of j) (shown_of k)) (sym did.modules_are) did.watched) in
    let now = retell told k.modules (shown_of j) law (HasSeen k.eyes.items) (TellsIn k.eyes.items glances) (shown_of k) eyes wrote.0 (λ p g h. inl h) wrote.1 in
    let t = on k.eyes.items (shown_of j) wrote.0 now in
    shows posters k.eyes.items glances all saw told k.modules (shown_of j) rest t.0 t.1 fresh.none last

-- the last lines behind one that was written
pub written_last : {B L : Type 0} (told : B → BookTold L) (a b : Shown B) (glances : List Glance) (letter place : ℕ) (glance : Glance) → slice_get glances place ≡ Some glance
    → WritesLine told letter place glance a b → b.failed ≡ false → HasLast glances a.last place → HasLast glances b.last (place + 1)
written_last told a b glances letter place glance at writes ok before =
    let set : b.last ≡ slice_set a.last place glance.records = writes.last ∙ ap (λ (f : Bool). cond f a.last (slice_set a.last place glance.records)) ok in
    let here : slice_index (slice_set a.last place glance.records) place ≡ glance.records = get_or-set_same a.last place glance.records 0 writes.there in
    let now : glance.records ≤ slice_index b.last place = subst (λ (n : List ℕ). glance.records ≤ slice_index n place) (sym set) (omega (arith, here)) in
    let more : (p : ℕ) → slice_index a.last p ≤ slice_index b.last p =
    λ p. subst (λ (n : List ℕ). slice_index a.last p ≤ slice_index n p) (sym set) (kept p) in
    last_more glances b.last place glance at now (last_kept glances a.last b.last place more before)
  where
    kept : (p : ℕ) → slice_index a.last p ≤ slice_index (slice_set a.last place glance.records) p
    kept p = ⊎_elim
        (λ (t : (p ≡ place) × (slice_index (slice_set a.last place glance.records) p ≡ glance.records)).
        let was : slice_index a.last p ≡ slice_index a.last place = ap (slice_index a.last) t.0 in omega (arith, was, t.1, writes.grown))
        (λ (t : slice_index (slice_set a.last place glance.records) p ≡ slice_index a.last p). omega (arith, t))
        (index_set a.last place glance.records p writes.there)

-- the numbers after a letter, behind those before it
pub then_last : (glances : List Glance) (was now after : Bool) (a b c : List ℕ) (place next : ℕ) → (after ≡ false → now ≡ false) → (now ≡ false → HasLast glances b place)
    → (after ≡ false → HasLast glances b place → HasLast glances c next) → after ≡ false → HasLast glances c next
then_last glances was now after a b c place next back had step ok = step ok (had (back ok))
