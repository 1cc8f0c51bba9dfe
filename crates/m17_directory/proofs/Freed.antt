-- Where places are given freely, who joins a module takes a place that whoever had it before has left.
use Rattle.std.proofs.Common.{◌≡◌, ◌⊎◌, ℕ, zero, suc, ◌+◌, ◌-◌, ◌<◌, ◌≤◌, ◌==◌, ◌&&◌, Bool, true, false, cond, eqb, List, [], ◌∷◌, ◌++◌, length, map, drop, filter, filter_map, slice_get, nat_lt, option_and_then, MatchBool, Option, None, Some, inl, inr, refl, ap, sym, subst, ◌∙◌, arith}
use Rattle.std.specs.List.{list_any, cons_option, flat_map, range_with_len}
use Rattle.std.proofs.lemmas.Bool.{cases_Bool, cases_lt, and_from, and_parts, eq-eqb, eqb-true, false≢true, and_right, or_parts}
use Rattle.std.proofs.lemmas.List.{append-nil, append_assoc, drop-append-le}
use Rattle.std.proofs.lemmas.List.Elements.{filter_map-append}
use Rattle.std.proofs.lemmas.Option.{same_Some, slice_get_within}
use Rattle.m17_lists.proofs.Places.{one_more_stands_at_the_end, places_before_stay}
use Rattle.m17_lists.proofs.Lengths.{one_more_is_one_longer}
use Rattle.m17_values.specs.declared.member.Member.{Member}
use Rattle.m17_control.specs.declared.event.Body.{Body}
use Rattle.m17_control.specs.declared.event.Body.TheVariants as body
use Rattle.m17_control.specs.declared.event.Event.{Event}
use Rattle.m17_control.specs.Renamed.{joiner_of, leaver_of, joiner_at, leaver_at, LeavesBetween, TakeFreePlaces}
use Rattle.m17_directory.specs.declared.dispatch.Dispatch.{Dispatch}
use Rattle.m17_directory.specs.declared.dispatch.Dispatch.TheVariants.{ToModule}
use Rattle.m17_directory.specs.declared.known.Known.{Known}
use Rattle.m17_directory.specs.Entries.{Claim, Entry, Setup, notice_at, claim_at}
use Rattle.m17_directory.specs.Known.{Past, now, known_at}
use Rattle.m17_directory.specs.Given.{IsOfFreePlace, AreGivenFreely}
use Rattle.m17_directory.specs.Outcome.{Outcome, leave, has_place}
use Rattle.m17_directory.specs.Routed.{here_of, unclaimed_at, others_at, settled_at, asks_at, both, past_at, posts_at, posted, event_for, routed}
use Rattle.m17_control.specs.declared.event.Why.TheVariants.{Replaced}
use Rattle.m17_directory.specs.Laws.{is_join, join_event, ClaimsAreAsked, JoinsTakeFreePlaces}
use Rattle.m17_directory.proofs.Same.{length_asked}
use Rattle.m17_directory.proofs.LawMore.{posted_upto}
use Rattle.m17_directory.proofs.LawPosts.{leaves_heard}
use Rattle.m17_directory.proofs.LawJoins.{none_heard, joins_of_events}
use Rattle.m17_directory.proofs.LawCounts.{count, count_append, is_such, such_heard}
use Rattle.m17_directory.proofs.LawWho.{AsksFor, asks_one, heard_count, others_are}
use Rattle.m17_directory.proofs.LawLeaves.{joiner, leaver, left_is, step}
use Rattle.m17_directory.proofs.Otherwise.{none_has, settled_view}

-- this member
is_it : Member → Member → Bool
is_it m k = (k.place == m.place) && (k.generation == m.generation)

it_self : (m : Member) → is_it m m ≡ true
unfolding is_it
it_self m = and_from (m.place == m.place) (m.generation == m.generation) (eq-eqb m.place m.place refl) (eq-eqb m.generation m.generation refl)

it_is : (m k : Member) → is_it m k ≡ true → k ≡ m
unfolding is_it
it_is m k h =
    let parts = and_parts (k.place == m.place) (k.generation == m.generation) h in
    let make : ℕ → ℕ → Member = λ x y. record { place = x; generation = y } in
    ap (λ x. make x k.generation) (eqb-true k.place m.place parts.0) ∙ ap (make m.place) (eqb-true k.generation m.generation parts.1)

-- how many Leaves of it, and Joins of it, are among these
leaves_of : Member → List Event → ℕ
leaves_of m events = count (is_it m) (filter_map leaver events)

joins_of : Member → List Event → ℕ
joins_of m events = count (is_it m) (filter_map joiner events)

leaves_append : (m : Member) (xs ys : List Event) → leaves_of m (xs ++ ys) ≡ leaves_of m xs + leaves_of m ys
unfolding leaves_of
leaves_append m xs ys = ap (count (is_it m)) (filter_map-append leaver xs ys) ∙ count_append (is_it m) (filter_map leaver xs) (filter_map leaver ys)

record Found (events : List Event) (m : Member) : Type 0 where
  at : ℕ
  within : at < length events
  leaves : leaver_at events at ≡ Some m

skipped : (b : Bool) (n : ℕ) → b ≡ false → 0 < cond b 1 0 + n → 0 < n
skipped true n e h = absurd (cc)
skipped false n e h = omega arith

one_more : (b : Bool) (n : ℕ) → b ≡ true → 0 < cond b 1 0 + n
one_more true n e = omega arith
one_more false n e = absurd (cc)

found_later : (m : Member) (x : Event) (xs : List Event) → Found xs m → Found (x ∷ xs) m
found_later m x xs f = record { at = suc f.at; within = omega (arith, f.within); leaves = f.leaves }

found_step : (m : Member) (x : Event) (xs : List Event) (o : Option Member) → leaver x ≡ o → 0 < count (is_it m) (cons_option o (filter_map leaver xs)) → (0 < count (is_it m) (filter_map leaver xs) → Found xs m) → Found (x ∷ xs) m
found_step m x xs None e h rest = found_later m x xs (rest h)
found_step m x xs (Some k) e h rest = elim (cases_Bool (is_it m k)) [
  | inl same ↦ record { at = 0; within = omega arith; leaves = e ∙ ap Some (it_is m k same) }
  | inr other ↦ found_later m x xs (rest (skipped (is_it m k) (count (is_it m) (filter_map leaver xs)) other h))
]

found : (m : Member) (events : List Event) → 0 < leaves_of m events → Found events m
unfolding leaves_of
found m [] h = absurd (omega arith)
found m (x ∷ xs) h = found_step m x xs (leaver x) refl h (found m xs)

get_drop : {A : Type 0} (n : ℕ) (xs : List A) (i : ℕ) → slice_get (drop n xs) i ≡ slice_get xs (n + i)
get_drop zero xs i = let e : i ≡ 0 + i = omega arith in ap (slice_get xs) e
get_drop (suc n) [] i = refl
get_drop (suc n) (x ∷ xs) i = let e : suc (n + i) ≡ suc n + i = omega arith in get_drop n xs i ∙ ap (slice_get (x ∷ xs)) e

length_drop : {A : Type 0} (n : ℕ) (xs : List A) (i : ℕ) → i < length (drop n xs) → n + i < length xs
length_drop zero xs i h = omega arith
length_drop (suc n) [] i h = absurd (omega arith)
length_drop (suc n) (x ∷ xs) i h = let l : n + i < length xs = length_drop n xs i h in omega arith

-- where some Leave of it is behind a position
behind : (m : Member) (events : List Event) (i : ℕ) → 0 < leaves_of m (drop (suc i) events) → LeavesBetween events m i (length events)
behind m events i h =
    let f : Found (drop (suc i) events) m = found m (drop (suc i) events) h in
    record {
      at = suc i + f.at;
      behind = omega arith;
      before = length_drop (suc i) events f.at f.within;
      leaves = sym (ap (option_and_then (λ (event : Event). leaver_of event.body)) (get_drop (suc i) events f.at)) ∙ f.leaves;
    }

-- a Join within, and behind
joiner_before : (xs ys : List Event) (i : ℕ) → i < length xs → joiner_at (xs ++ ys) i ≡ joiner_at xs i
joiner_before xs ys i l = ap (option_and_then (λ (event : Event). joiner_of event.body)) (places_before_stay xs ys i l)

leaver_before : (xs ys : List Event) (i : ℕ) → i < length xs → leaver_at (xs ++ ys) i ≡ leaver_at xs i
leaver_before xs ys i l = ap (option_and_then (λ (event : Event). leaver_of event.body)) (places_before_stay xs ys i l)

joiner_within : (xs : List Event) (i : ℕ) (m : Member) (o : Option Event) → slice_get xs i ≡ o → option_and_then (λ (event : Event). joiner_of event.body) o ≡ Some m → i < length xs
joiner_within xs i m None e h = cc
joiner_within xs i m (Some x) e h = slice_get_within xs i x e

within : (xs : List Event) (i : ℕ) (m : Member) → joiner_at xs i ≡ Some m → i < length xs
within xs i m h = joiner_within xs i m (slice_get xs i) refl h

joined_step : (m : Member) (o : Option Member) (ms : List Member) → o ≡ Some m → 0 < count (is_it m) (cons_option o ms)
joined_step m None ms e = cc
joined_step m (Some k) ms e = one_more (is_it m k) (count (is_it m) ms) (ap (is_it m) (same_Some k m e) ∙ it_self m)

joined_rest : (m : Member) (o : Option Member) (ms : List Member) → 0 < count (is_it m) ms → 0 < count (is_it m) (cons_option o ms)
joined_rest m None ms h = h
joined_rest m (Some k) ms h = omega arith

joins_counted : (m : Member) (xs : List Event) (i : ℕ) → joiner_at xs i ≡ Some m → 0 < joins_of m xs
unfolding joins_of
joins_counted m [] i h = cc
joins_counted m (x ∷ xs) zero h = joined_step m (joiner x) (filter_map joiner xs) h
joins_counted m (x ∷ xs) (suc i) h = joined_rest m (joiner x) (filter_map joiner xs) (joins_counted m xs i h)

-- a Join that is put behind the others
between_more : (xs ys : List Event) (m : Member) (i n : ℕ) → n ≤ length xs → LeavesBetween xs m i n → LeavesBetween (xs ++ ys) m i n
between_more xs ys m i n l b = record {
  at = b.at;
  behind = b.behind;
  before = b.before;
  leaves = leaver_before xs ys b.at (omega (arith, b.before)) ∙ b.leaves;
}

abbrev NoJoins : List Event → Type 0
NoJoins ys = (i : ℕ) (m : Member) → joiner_at ys i ≡ Some m → ⊥

joiner_after : (xs ys : List Event) (i : ℕ) → length xs ≤ i → joiner_at (xs ++ ys) i ≡ joiner_at ys (i - length xs)
joiner_after [] ys i l = let e : i ≡ i - 0 = omega arith in ap (joiner_at ys) e
joiner_after (x ∷ xs) ys zero l = absurd (omega arith)
joiner_after (x ∷ xs) ys (suc i) l = let e : i - length xs ≡ suc i - suc (length xs) = omega arith in joiner_after xs ys i (omega arith) ∙ ap (joiner_at ys) e

joins_within : (xs ys : List Event) (i : ℕ) (m : Member) → NoJoins ys → joiner_at (xs ++ ys) i ≡ Some m → i < length xs
joins_within xs ys i m none h = elim (cases_lt i (length xs)) [
  | inl l ↦ l
  | inr l ↦ absurd (none (i - length xs) m (sym (joiner_after xs ys i l) ∙ h))
]

free_more : (places : ℕ) (xs ys : List Event) → NoJoins ys → TakeFreePlaces places xs → TakeFreePlaces places (xs ++ ys)
free_more places xs ys none free = record {
  below = λ n k h. let l : n < length xs = joins_within xs ys n k none h in free.below n k (sym (joiner_before xs ys n l) ∙ h);
  left = λ i n m k less f h same.
      let l : n < length xs = joins_within xs ys n k none h in
      let j : i < length xs = omega arith in
      between_more xs ys m i n (omega arith) (free.left i n m k less (sym (joiner_before xs ys i j) ∙ f) (sym (joiner_before xs ys n l) ∙ h) same);
}

-- the one that is put behind
last_or : (xs : List Event) (y : Event) (n : ℕ) (k : Member) → joiner_at (xs ++ y ∷ []) n ≡ Some k → (n < length xs) ⊎ ((n ≡ length xs) × (joiner y ≡ Some k))
last_or xs y n k h = elim (cases_lt n (length xs)) [
  | inl l ↦ inl l
  | inr l ↦
      let at : n ≡ length xs = (let w : n < length (xs ++ y ∷ []) = within (xs ++ y ∷ []) n k h in omega (arith, one_more_is_one_longer xs y)) in
      inr (at, sym (ap (option_and_then (λ (event : Event). joiner_of event.body)) (ap (slice_get (xs ++ y ∷ [])) at ∙ one_more_stands_at_the_end xs y)) ∙ h)
]

free_push : (places : ℕ) (xs : List Event) (y : Event) (c : Member) → joiner y ≡ Some c → c.place < places → ((i : ℕ) (m : Member) → joiner_at xs i ≡ Some m → m.place ≡ c.place → LeavesBetween xs m i (length xs)) → TakeFreePlaces places xs → TakeFreePlaces places (xs ++ y ∷ [])
free_push places xs y c is below left free = record {
  below = λ n k h. elim (last_or xs y n k h) [
    | inl l ↦ free.below n k (sym (joiner_before xs (y ∷ []) n l) ∙ h)
    | inr end ↦ let same : c ≡ k = same_Some c k (sym is ∙ end.1) in omega (arith, ap (λ (x : Member). x.place) same)
  ];
  left = λ i n m k less f h same. elim (last_or xs y n k h) [
    | inl l ↦
        let j : i < length xs = omega arith in
        between_more xs (y ∷ []) m i n (omega arith) (free.left i n m k less (sym (joiner_before xs (y ∷ []) i j) ∙ f) (sym (joiner_before xs (y ∷ []) n l) ∙ h) same)
    | inr end ↦
        let j : i < length xs = omega (arith, end.0) in
        let who : c ≡ k = same_Some c k (sym is ∙ end.1) in
        subst (λ (x : ℕ). LeavesBetween (xs ++ y ∷ []) m i x) (sym end.0)
        (between_more xs (y ∷ []) m i (length xs) (omega arith) (left i m (sym (joiner_before xs (y ∷ []) i j) ∙ f) (same ∙ ap (λ (x : Member). x.place) (sym who))))
  ];
}

-- an event list without Joins
joins_is : (b : Body) (m : Member) → joiner_of b ≡ Some m → is_join b ≡ true
joins_is (body.Join k x callsign listen after) m e = refl
joins_is (body.Leave k why) m e = cc
joins_is (body.Packet k p) m e = cc
joins_is (body.Reply k c) m e = cc
joins_is body.Tick m e = cc
joins_is body.Stop m e = cc

join_parts : (b : Bool) (y : Event) (ys : List Event) → cond b (y ∷ ys) ys ≡ [] → (b ≡ false) × (ys ≡ [])
join_parts true y ys e = absurd (cc)
join_parts false y ys e = (refl, e)

no_joins : (ys : List Event) → filter (λ e. is_join e.body) ys ≡ [] → NoJoins ys
no_joins [] e i m h = absurd (cc)
no_joins (y ∷ ys) e zero m h =
    let parts = join_parts (is_join y.body) y (filter (λ (x : Event). is_join x.body) ys) e in
    false≢true (sym parts.0 ∙ joins_is y.body m h)
no_joins (y ∷ ys) e (suc i) m h =
    let parts = join_parts (is_join y.body) y (filter (λ (x : Event). is_join x.body) ys) e in
    no_joins ys parts.1 i m h

joiner_leaves_not : (b : Body) (k : Member) → joiner_of b ≡ Some k → leaver_of b ≡ None
joiner_leaves_not (body.Join m x callsign listen after) k e = refl
joiner_leaves_not (body.Leave m why) k e = cc
joiner_leaves_not (body.Packet m p) k e = cc
joiner_leaves_not (body.Reply m c) k e = cc
joiner_leaves_not body.Tick k e = cc
joiner_leaves_not body.Stop k e = cc

-- nobody of this place
none_such_step : (b : Bool) (n : ℕ) → b ≡ false → n ≡ 0 → cond b 1 0 + n ≡ 0
none_such_step true n e h = absurd (cc)
none_such_step false n e h = omega arith

none_such : (letter q : ℕ) (m : Member) (ks : List Known) → m.place ≡ q → list_any (has_place q) ks ≡ false → count (is_such letter (is_it m)) ks ≡ 0
unfolding is_it
none_such letter q m [] at e = refl
none_such letter q m (k ∷ ks) at e =
    let parts = or_parts (has_place q k) (list_any (has_place q) ks) e in
    none_such_step (eqb k.letter letter && ((k.member.place == m.place) && (k.member.generation == m.generation))) (count (is_such letter (is_it m)) ks)
    (ap (λ x. eqb k.letter letter && ((k.member.place == x) && (k.member.generation == m.generation))) at
    ∙ ap (λ b. eqb k.letter letter && (b && (k.member.generation == m.generation))) parts.0
    ∙ and_right (eqb k.letter letter) false refl)
    (none_such letter q m ks at parts.1)

module _ (setup : Setup) (entries : List Entry) (letter : ℕ) (given : AreGivenFreely setup entries) where
  asked_claims : ClaimsAreAsked setup entries
  asked_claims n l e =
      let past : Past = past_at setup entries n in
      subst (λ (u : Bool). MatchBool (u && nat_lt (length (others_at past)) setup.places) (IsOfFreePlace setup.places (others_at past) (claim_at entries n)) (claim_at entries n ≡ None)) e (given.each n l)

  -- what the module is routed by the entries before a position, by the entry there, and of that before its claim
  abbrev so_far : ℕ → List Event
  so_far n = filter_map (event_for letter) (flat_map (posts_at setup entries) (range_with_len 0 n))

  abbrev by_entry : ℕ → List Event
  by_entry n = filter_map (event_for letter) (posts_at setup entries n)

  abbrev by_heard : ℕ → List Event
  by_heard n = filter_map (event_for letter) (unclaimed_at (past_at setup entries n)).posts

  so_far_suc : (n : ℕ) → so_far (suc n) ≡ so_far n ++ by_entry n
  so_far_suc n =
      ap (filter_map (event_for letter)) (posted_upto setup entries n)
      ∙ filter_map-append (event_for letter) (flat_map (posts_at setup entries) (range_with_len 0 n)) (posts_at setup entries n)

  heard_joins_none : (n : ℕ) → NoJoins (by_heard n)
  heard_joins_none n = no_joins (by_heard n) (joins_of_events letter (unclaimed_at (past_at setup entries n)).posts ∙ none_heard letter (past_at setup entries n))

  -- a Join comes behind
  record Put (n : ℕ) : Type 0 where
    claim : Claim
    event : Event
    asks : asks_at (past_at setup entries n) ≡ true
    below : claim.member.place < setup.places
    free : list_any (has_place claim.member.place) (others_at (past_at setup entries n)) ≡ false
    joins : joiner event ≡ Some claim.member
    is : by_entry n ≡ by_heard n ++ event ∷ []

  abbrev out : ℕ → Bool → Option Claim → List Dispatch
  out n u claim = (cond u (both (unclaimed_at (past_at setup entries n)) (settled_at (past_at setup entries n) claim)) (unclaimed_at (past_at setup entries n))).posts

  posts_are : (n : ℕ) → posts_at setup entries n ≡ out n (asks_at (past_at setup entries n)) (claim_at entries n)
  unfolding posts_at
  posts_are n = ap (λ m. out n (asks_at (past_at setup entries n)) (claim_at entries m)) (length_asked setup entries n)

  with_none : (n : ℕ) (u : Bool) → asks_at (past_at setup entries n) ≡ u → claim_at entries n ≡ None → by_entry n ≡ by_heard n
  with_none n true e none =
      let past : Past = past_at setup entries n in
      let one : AsksFor (notice_at entries (now past)) = asks_one past e in
      ap (filter_map (event_for letter)) (posts_are n ∙ ap (λ u. out n u (claim_at entries n)) e ∙ ap (out n true) none)
      ∙ filter_map-append (event_for letter) (unclaimed_at past).posts (settled_at past None).posts
      ∙ ap (λ (o : Outcome). by_heard n ++ filter_map (event_for letter) o.posts) (settled_view past None one.from one.at one.packet one.request one.says one.wants)
      ∙ append-nil (by_heard n)
  with_none n false e none = ap (filter_map (event_for letter)) (posts_are n ∙ ap (λ u. out n u (claim_at entries n)) e)

  put_if : (n : ℕ) (b : Bool) (claim : Claim) (event : Event) → asks_at (past_at setup entries n) ≡ true → claim.member.place < setup.places → list_any (has_place claim.member.place) (others_at (past_at setup entries n)) ≡ false → joiner event ≡ Some claim.member → by_entry n ≡ by_heard n ++ cons_option (cond b (Some event) None) [] → (by_entry n ≡ by_heard n) ⊎ Put n
  put_if n true claim event asks below free joins is = inr (record { claim = claim; event = event; asks = asks; below = below; free = free; joins = joins; is = is })
  put_if n false claim event asks below free joins is = inl (is ∙ append-nil (by_heard n))

  with_claim : (n : ℕ) → asks_at (past_at setup entries n) ≡ true → IsOfFreePlace setup.places (others_at (past_at setup entries n)) (claim_at entries n) → (by_entry n ≡ by_heard n) ⊎ Put n
  with_claim n asks of =
      let past : Past = past_at setup entries n in
      let one : AsksFor (notice_at entries (now past)) = asks_one past asks in
      let event : Event = join_event (here_of past) one.from one.request of.it in
      let settles : (settled_at past (Some of.it)).posts ≡ ToModule one.request.letter event ∷ [] =
      ap (λ (o : Outcome). o.posts) (settled_view past (Some of.it) one.from one.at one.packet one.request one.says one.wants)
      ∙ ap (λ ks. map (leave (here_of past) Replaced) ks ++ ToModule one.request.letter event ∷ []) (none_has (has_place of.it.member.place) (others_at past) of.free) in
      put_if n (eqb one.request.letter letter) of.it event asks of.below of.free refl
      (ap (filter_map (event_for letter)) (posts_are n ∙ ap (λ u. out n u (claim_at entries n)) asks ∙ ap (out n true) of.is_it)
      ∙ filter_map-append (event_for letter) (unclaimed_at past).posts (settled_at past (Some of.it)).posts
      ∙ ap (λ ds. by_heard n ++ filter_map (event_for letter) ds) settles)

  and_first : (x y : Bool) → (x && y) ≡ true → x ≡ true
  and_first true y e = refl
  and_first false y e = e

  form_by : (n : ℕ) (u : Bool) → u ≡ (asks_at (past_at setup entries n) && nat_lt (length (others_at (past_at setup entries n))) setup.places) → MatchBool u (IsOfFreePlace setup.places (others_at (past_at setup entries n)) (claim_at entries n)) (claim_at entries n ≡ None) → (by_entry n ≡ by_heard n) ⊎ Put n
  form_by n true e h = with_claim n (and_first (asks_at (past_at setup entries n)) _ (sym e)) h
  form_by n false e h = inl (with_none n (asks_at (past_at setup entries n)) refl h)

  form : (n : ℕ) → n < length entries → (by_entry n ≡ by_heard n) ⊎ Put n
  form n l = form_by n (asks_at (past_at setup entries n) && nat_lt (length (others_at (past_at setup entries n))) setup.places) refl (given.each n l)

  -- who leaves by it was known
  abbrev known : Member → ℕ → ℕ
  known m n = count (is_such letter (is_it m)) (known_at (past_at setup entries n))

  heard_leaves : (m : Member) (n : ℕ) → leaves_of m (by_heard n) ≡ count (is_such letter (is_it m)) (unclaimed_at (past_at setup entries n)).left
  unfolding leaves_of
  heard_leaves m n = left_is letter (is_it m) (unclaimed_at (past_at setup entries n)) (leaves_heard (past_at setup entries n))

  heard_le : (m : Member) (n : ℕ) → leaves_of m (by_heard n) ≤ known m n
  heard_le m n = omega (arith, heard_leaves m n, heard_count (past_at setup entries n) (is_such letter (is_it m)) (such_heard letter (is_it m)))

  no_leave : (m : Member) (event : Event) (o : Option Member) → leaver event ≡ o → o ≡ None → leaves_of m (event ∷ []) ≡ 0
  unfolding leaves_of
  no_leave m event o e none = ap (λ x. count (is_it m) (cons_option x [])) (e ∙ none)

  entry_leaves_by : (m : Member) (n : ℕ) → (by_entry n ≡ by_heard n) ⊎ Put n → leaves_of m (by_entry n) ≡ leaves_of m (by_heard n)
  entry_leaves_by m n (inl same) = ap (leaves_of m) same
  entry_leaves_by m n (inr put) =
      ap (leaves_of m) put.is
      ∙ leaves_append m (by_heard n) (put.event ∷ [])
      ∙ omega (arith, no_leave m put.event (leaver put.event) refl (joiner_leaves_not put.event.body put.claim.member put.joins))

  entry_le : (m : Member) (n : ℕ) → n < length entries → leaves_of m (by_entry n) ≤ known m n
  entry_le m n l = omega (arith, entry_leaves_by m n (form n l), heard_le m n)

  step_of : (m : Member) (n : ℕ) → n < length entries → known m (suc n) + leaves_of m (by_entry n) ≡ known m n + joins_of m (by_entry n)
  unfolding leaves_of joins_of
  step_of m n l = step letter (is_it m) setup entries n l asked_claims

  -- Who has joined has left since, or is known.
  left_or_known : (n : ℕ) → n ≤ length entries → (i : ℕ) (m : Member) → joiner_at (so_far n) i ≡ Some m → 0 < leaves_of m (drop (suc i) (so_far n)) + known m n
  left_or_known zero h i m e = absurd (cc)
  left_or_known (suc n) h i m e =
      let now_at : joiner_at (so_far n ++ by_entry n) i ≡ Some m = ap (λ xs. joiner_at xs i) (sym (so_far_suc n)) ∙ e in
      let goal : 0 < leaves_of m (drop (suc i) (so_far n ++ by_entry n)) + known m (suc n) =
      elim (cases_lt i (length (so_far n))) [
        | inl l ↦
            let before : 0 < leaves_of m (drop (suc i) (so_far n)) + known m n = left_or_known n (omega arith) i m (sym (joiner_before (so_far n) (by_entry n) i l) ∙ now_at) in
            let parts : leaves_of m (drop (suc i) (so_far n ++ by_entry n)) ≡ leaves_of m (drop (suc i) (so_far n)) + leaves_of m (by_entry n) =
            ap (leaves_of m) (drop-append-le (suc i) (so_far n) (by_entry n) (omega arith)) ∙ leaves_append m (drop (suc i) (so_far n)) (by_entry n) in
            let next = step_of m n (omega arith) in
            omega (arith, before, parts, next)
        | inr l ↦
            let joins : 0 < joins_of m (by_entry n) = joins_counted m (by_entry n) (i - length (so_far n)) (sym (joiner_after (so_far n) (by_entry n) i l) ∙ now_at) in
            let next = step_of m n (omega arith) in
            let few = entry_le m n (omega arith) in
            omega (arith, joins, next, few)
      ] in
      subst (λ (xs : List Event). 0 < leaves_of m (drop (suc i) xs) + known m (suc n)) (sym (so_far_suc n)) goal

  -- whoever had the place of a Join before leaves by its entry at the latest
  place_left : (n : ℕ) → n < length entries → (put : Put n) (i : ℕ) (m : Member) → joiner_at (so_far n ++ by_heard n) i ≡ Some m → m.place ≡ put.claim.member.place → LeavesBetween (so_far n ++ by_heard n) m i (length (so_far n ++ by_heard n))
  place_left n l put i m e at =
      let past : Past = past_at setup entries n in
      let such : Known → Bool = is_such letter (is_it m) in
      let inside : i < length (so_far n) = joins_within (so_far n) (by_heard n) i m (heard_joins_none n) e in
      let before : 0 < leaves_of m (drop (suc i) (so_far n)) + known m n = left_or_known n (omega arith) i m (sym (joiner_before (so_far n) (by_heard n) i inside) ∙ e) in
      let others : count such (others_at past) ≡ 0 = none_such letter put.claim.member.place m (others_at past) at put.free in
      let all : count such (others_at past) + count such (unclaimed_at past).left ≡ known m n = ap (λ ks. count such ks + count such (unclaimed_at past).left) (sym (others_are past put.asks)) ∙ heard_count past such (such_heard letter (is_it m)) in
      let parts : leaves_of m (drop (suc i) (so_far n ++ by_heard n)) ≡ leaves_of m (drop (suc i) (so_far n)) + leaves_of m (by_heard n) =
      ap (leaves_of m) (drop-append-le (suc i) (so_far n) (by_heard n) (omega arith)) ∙ leaves_append m (drop (suc i) (so_far n)) (by_heard n) in
      let left = heard_leaves m n in
      behind m (so_far n ++ by_heard n) i (omega (arith, before, others, all, parts, left))

  free_next : (n : ℕ) → n < length entries → (by_entry n ≡ by_heard n) ⊎ Put n → TakeFreePlaces setup.places (so_far n) → TakeFreePlaces setup.places (so_far n ++ by_entry n)
  free_next n l (inl same) free = subst (λ (ys : List Event). TakeFreePlaces setup.places (so_far n ++ ys)) (sym same) (free_more setup.places (so_far n) (by_heard n) (heard_joins_none n) free)
  free_next n l (inr put) free =
      subst (λ (ys : List Event). TakeFreePlaces setup.places (so_far n ++ ys)) (sym put.is)
      (subst (TakeFreePlaces setup.places) (append_assoc (so_far n) (by_heard n) (put.event ∷ []))
      (free_push setup.places (so_far n ++ by_heard n) put.event put.claim.member put.joins put.below (place_left n l put)
      (free_more setup.places (so_far n) (by_heard n) (heard_joins_none n) free)))

  free_first : TakeFreePlaces setup.places []
  free_first = record { below = λ n k e. absurd (cc); left = λ i n m k l e f s. absurd (cc) }

  free_upto : (n : ℕ) → n ≤ length entries → TakeFreePlaces setup.places (so_far n)
  free_upto zero h = free_first
  free_upto (suc n) h = subst (TakeFreePlaces setup.places) (sym (so_far_suc n)) (free_next n (omega arith) (form n (omega arith)) (free_upto n (omega arith)))

pub joins_take_free : JoinsTakeFreePlaces
unfolding routed posted
joins_take_free setup entries letter given = free_upto setup entries letter given (length entries) (omega arith)
