-- One trail for each module: the order of its inbox is one interleaving of what the links route to it, and all of it was popped.
use Rattle.std.proofs.Common.{◌≡◌, ℕ, zero, suc, ◌+◌, ◌<◌, Bool, true, false, cond, List, [], ◌∷◌, map, length, All, Some, sym, subst, refl, ap, ◌∙◌, arith, nat_lt, Option, None}
use Rattle.std.specs.Prelude.{◌==◌, ◌&&◌, slice_get, slice_index, slice_index_or, filter, sum_by, count_by}
use Rattle.std.specs.List.{range_with_len, list_any, AllByRecursion, cons_option, filter_map, enumerate_from, flat_map}
use Rattle.std.specs.Option.{option_map, option_map_or}
use Rattle.std.proofs.lemmas.List.{length-map}
use Rattle.std.proofs.lemmas.List.Elements.{All-from_recursion, recursion_from_All}
use Rattle.std.proofs.lemmas.Option.{same_Some, none-some, slice_get-map}
use Rattle.m17_control.specs.declared.event.Body.{Body}
use Rattle.m17_control.specs.declared.event.Body.TheVariants.{Join, Leave, Packet, Reply, Tick, Stop}
use Rattle.m17_control.specs.declared.event.Event.{Event}
use Rattle.m17_control.specs.Modules.{serves, letters_of}
use Rattle.m17_directory.specs.Laws as law
use Rattle.m17_directory.specs.Routed.{routed}
use Rattle.m17_directory.specs.Laws.{RouteCarriesLink, RouteEndsInOneStop, RouteIsOfClaimed, claimed_members, member_of, JoinsOfAllModules, EachClaimJoins, ClaimsAreAsked, is_join, joiner_of, all_joins}
use Rattle.m17_lane.specs.Ends.{PushEnd, PopEnd, TrailEnd, logs_of, new_pushers}
use Rattle.m17_lane.specs.Orders.{items_of, picked}
use Rattle.m17_lane.specs.Rows.{push_each}
use Rattle.m17_lane.specs.Columns.{row_at, push_grid}
use Rattle.m17_lane.specs.Laid.{IsLaid}
use Rattle.m17_lane.specs.Trails.{IsTrailOf}
use Rattle.m17_lane.specs.Interleavings.{IsInterleaving}
use Rattle.m17_lane.specs.GridLaws.{RowsStand, OrderIsInterleaving}
use Rattle.m17_worker.specs.Taken as taken
use Rattle.m17_worker.specs.Taken.{EndsWithStops, is_there, place_of}
use Rattle.m17_plan.specs.declared.plan.Plan.{Plan}
use Rattle.m17_reflect.specs.Links.{Link, IsLink, At, link_setup, letter_of, routes, route_of}
use Rattle.m17_reflect.specs.Run.{module_count}
use Rattle.m17_reflect.specs.Trails.{IsTrail, events_of, AreTrails}
use Rattle.m17_reflect.proofs.PlaceByPlace.{EndsInStop, all_popped, numbered_length, at_below, below_at, entries_in, route_by, routes_by, routes_at}
use Rattle.std.proofs.lemmas.Bool.{eq-eqb}
use Rattle.std.proofs.lemmas.Bool.Decides.{nat_tests}
use Rattle.m17_values.specs.declared.member.Member.{Member}
use Rattle.m17_directory.specs.Entries.{Claim, Entry, claim_at}
use Rattle.std.proofs.lemmas.List.Sums.{sum_by-cons, sum_by-append}
use Rattle.m17_reflect.specs.Places.{AreSame, joiners}
use Rattle.m17_reflect.proofs.ListPlaces.{sum_same, sum_map, swap, sum_flat, hits, count_mapped, sum_beside, interleaved}

module _ {T : Type 0} where
  pushed_of_logs : (row : List (PushEnd T)) → map (λ (q : PushEnd T). q.pushed) row ≡ map (λ (l : ℕ × List T). l.1) (logs_of row)
  pushed_of_logs [] = refl
  pushed_of_logs (q ∷ row) = ap (λ (ls : List (List T)). q.pushed ∷ ls) (pushed_of_logs row)

  without_numbers : (f : ℕ → List T) (is : List ℕ) → map (λ (l : ℕ × List T). l.1) (map (λ i. (i, f i)) is) ≡ map f is
  without_numbers f [] = refl
  without_numbers f (i ∷ is) = ap (λ (ls : List (List T)). f i ∷ ls) (without_numbers f is)

  -- what the new ends of a lane have pushed
  pub pushed_row : RowsStand T → (f : ℕ → List T) (p : PopEnd T) (n : ℕ) → map (λ (q : PushEnd T). q.pushed) (push_each f 0 (new_pushers p n)) ≡ map f (range_with_len 0 n)
  pushed_row law f p n =
      pushed_of_logs (push_each f 0 (new_pushers p n))
      ∙ ap (map (λ (l : ℕ × List T). l.1)) (law.logs f p n) ∙ without_numbers f (range_with_len 0 n)

  -- the row of a lane of a grid whose columns were pushed to
  pub row_of : RowsStand T → (f : ℕ → ℕ → List T) (cols : List (List (PushEnd T))) (poppers : List (PopEnd T)) (n cap m : ℕ) (p : PopEnd T) → IsLaid n cap cols poppers → slice_get poppers m ≡ Some p → row_at m (push_grid f 0 cols) ≡ push_each (λ i. f i m) 0 (new_pushers p n)
  row_of law f cols poppers n cap m p laid e =
      let inside : m < length poppers = below_at poppers m p e in
      law.pushed f cols m (λ k d lt. let lanes = laid.grid.lanes k d lt in
      omega (arith, ap length lanes, length-map poppers (λ (q : PopEnd T). q.lane), length-map (slice_index_or cols k d) (λ (q : PushEnd T). q.lane)))
      ∙ ap (push_each (λ i. f i m) 0) (laid.rows m p e).1

  in_range : (g : ℕ → List T) (k n i j : ℕ) (l : List T) → j ≡ k + i → slice_get (map g (range_with_len k n)) i ≡ Some l → l ≡ g j
  in_range g k zero i j l is e = absurd (none-some l e)
  in_range g k (suc n) zero j l is e = let at : k ≡ j = omega arith in sym (same_Some (g k) l e) ∙ ap g at
  in_range g k (suc n) (suc i) j l is e = in_range g (k + 1) n i j l (omega arith) e

  -- what an end of that row has pushed
  pub pushed_at : RowsStand T → (f : ℕ → List T) (p : PopEnd T) (n i : ℕ) (q : PushEnd T) → slice_get (push_each f 0 (new_pushers p n)) i ≡ Some q → q.pushed ≡ f i
  pushed_at law f p n i q e =
      in_range f 0 n i i q.pushed (omega arith)
      (ap (λ (ls : List (List T)). slice_get ls i) (sym (pushed_row law f p n))
      ∙ slice_get-map (λ (q : PushEnd T). q.pushed) (push_each f 0 (new_pushers p n)) i ∙ ap (option_map (λ (q : PushEnd T). q.pushed)) e)

-- the letters of modules are served
served_step : (p : ℕ → Bool) (b : Bool) (x : ℕ) (ys : List ℕ) → p x ≡ b → ((m : ℕ) → m < length ys → p (slice_index ys m) ≡ true) → (m : ℕ) → m < length (cond b (x ∷ ys) ys) → p (slice_index (cond b (x ∷ ys) ys) m) ≡ true
served_step p true x ys e h zero lt = e
served_step p true x ys e h (suc m) lt = h m (omega arith)
served_step p false x ys e h m lt = h m lt

served_in : (p : ℕ → Bool) (xs : List ℕ) (m : ℕ) → m < length (filter p xs) → p (slice_index (filter p xs) m) ≡ true
served_in p [] m lt = absurd (omega arith)
served_in p (x ∷ xs) m lt = served_step p (p x) x (filter p xs) refl (served_in p xs) m lt

pub letter_served : (plan : Plan) (m : ℕ) → m < module_count plan → serves plan.modules (letter_of plan m) ≡ true
letter_served plan m lt = served_in (serves plan.modules) (range_with_len 65 26) m lt

same_stop : (body : Body) → law.is_stop body ≡ taken.is_stop body
same_stop (Join k peer callsign listens after) = refl
same_stop (Leave k why) = refl
same_stop (Packet k p) = refl
same_stop (Reply k control) = refl
same_stop Tick = refl
same_stop Stop = refl

no_stops : (xs : List Event) → AllByRecursion (λ (event : Event). law.is_stop event.body ≡ false) xs → AllByRecursion (λ (event : Event). taken.is_stop event.body ≡ false) xs
no_stops [] h = tt
no_stops (x ∷ xs) h = (sym (same_stop x.body) ∙ h.0, no_stops xs h.1)

-- the part of a link ends in its stop
route_stops : RouteEndsInOneStop → (plan : Plan) (link : Link) (i m : ℕ) (part : List Event) → IsLink link → m < module_count plan → routed (link_setup plan i) link.entries (letter_of plan m) ≡ part → EndsInStop (λ (event : Event). taken.is_stop event.body) part
route_stops stops plan link i m part is lt e =
    let (before, last, whole, stop, none) = stops (link_setup plan i) link.entries (letter_of plan m) is.ends (letter_served plan m lt) in
    record { before = before; last = last; is = sym e ∙ whole; none = no_stops before none }

-- the number of an event's link
abbrev pub link_of : Event → ℕ
link_of event = event.tag.link

-- the laws that one trail rests on
pub record OneTrailLaws : Type 0 where
  pub rows : RowsStand Event
  pub order : OrderIsInterleaving Event
  pub carries : RouteCarriesLink
  pub stops : RouteEndsInOneStop

-- The inboxes of a run: the ends that pushed, column by column, and those that popped, as they were laid.
pub record Inboxes : Type 0 where
  pub columns : List (List (PushEnd Event))
  pub poppers : List (PopEnd Event)
  pub capacity : ℕ

-- the columns when each link has routed
abbrev pub routed_columns : Plan → List Link → Inboxes → List (List (PushEnd Event))
routed_columns plan links boxes =
    push_grid (λ i m. route_by plan links (letter_of plan m) i) 0 boxes.columns

pub one_order : OneTrailLaws → (plan : Plan) (links : List Link) (boxes : Inboxes) (m : ℕ) (p end : PopEnd Event) (t : TrailEnd Event) → IsLaid (length links) boxes.capacity boxes.columns boxes.poppers → slice_get boxes.poppers m ≡ Some p → IsTrailOf (row_at m (routed_columns plan links boxes)) end t → IsInterleaving link_of (routes plan links (letter_of plan m)) (items_of t.order)
one_order laws plan links boxes m p end t laid e h =
    let letter = letter_of plan m in let f = route_by plan links letter in
    let row = push_each f 0 (new_pushers p (length links)) in
    let is_row : row_at m (routed_columns plan links boxes) ≡ row = row_of laws.rows (λ i m. route_by plan links (letter_of plan m) i) boxes.columns boxes.poppers (length links) boxes.capacity m p laid e in
    let trail : IsTrailOf row end t = subst (λ (r : List (PushEnd Event)). IsTrailOf r end t) is_row h in
    let found = laws.order link_of row end t trail (λ i q at.
    subst (All (λ (x : Event). link_of x ≡ i)) (sym (pushed_at laws.rows f p (length links) i q at))
    (All-from_recursion (λ (x : Event). link_of x ≡ i) (f i) (laws.carries (link_setup plan i) (entries_in links i) letter))) in
    subst (λ (ls : List (List Event)). IsInterleaving link_of ls (items_of t.order))
    (pushed_row laws.rows f p (length links) ∙ sym (routes_by plan links letter)) found

-- one order, all of it popped
pub one_trail : OneTrailLaws → (plan : Plan) (links : List Link) (boxes : Inboxes) (m : ℕ) (p end : PopEnd Event) (t : TrailEnd Event) → ((i : ℕ) (link : Link) → At links i link → IsLink link) → m < module_count plan → IsLaid (length links) boxes.capacity boxes.columns boxes.poppers → slice_get boxes.poppers m ≡ Some p → IsTrailOf (row_at m (routed_columns plan links boxes)) end t → EndsWithStops (length links) end.popped → IsTrail plan links (letter_of plan m) t
one_trail laws plan links boxes m p end t each lt laid e h stops =
    let order = one_order laws plan links boxes m p end t laid e h in
    let (rest, whole) = h.whole in
    let count : length (routes plan links (letter_of plan m)) ≡ length links = numbered_length (route_of plan (letter_of plan m)) 0 links in record {
      order = order;
      popped = all_popped link_of (λ (event : Event). taken.is_stop event.body) (length links) (items_of t.order) t.popped rest whole.queued
          (subst (λ (n : ℕ). All (λ (x : Event). link_of x < n) (items_of t.order)) count order.known)
          (λ i less. let (link, at) = at_below links i less in
          route_stops laws.stops plan link i m (picked link_of i (items_of t.order)) (each i link at) lt
          (order.parts i (routed (link_setup plan i) link.entries (letter_of plan m)) (routes_at plan links (letter_of plan m) i link at)))
          (λ i less. subst (λ (xs : List Event). list_any (λ x. (link_of x == i) && taken.is_stop x.body) xs ≡ true) (sym h.popped) (stops.each i less));
    }

-- Each event of a trail names a link that is there, and a place that is there if it names one; so a worker takes all of them.

module _ {T : Type 0} where
  head_step : (P : T → Type 0) (b : Bool) (x : T) (xs : List T) → b ≡ true → AllByRecursion P (cond b (x ∷ xs) xs) → P x
  head_step P true x xs e h = h.0
  head_step P false x xs e h = absurd cc

  tail_step : (P : T → Type 0) (b : Bool) (x : T) (xs : List T) → AllByRecursion P (cond b (x ∷ xs) xs) → AllByRecursion P xs
  tail_step P true x xs h = h.1
  tail_step P false x xs h = h

  -- what holds of each part of an order holds of the order
  pub all_from_parts : (P : T → Type 0) (f : T → ℕ) (n : ℕ) (xs : List T) → AllByRecursion (λ x. f x < n) xs → ((i : ℕ) → i < n → AllByRecursion P (picked f i xs)) → AllByRecursion P xs
  all_from_parts P f n [] below h = tt
  all_from_parts P f n (x ∷ xs) below h = (
    head_step P (f x == f x) x (picked f (f x) xs) (eq-eqb (f x) (f x) refl) (h (f x) below.0),
    all_from_parts P f n xs below.1 (λ i lt. tail_step P (f x == i) x (picked f i xs) (h i lt)),
  )

  pub both_hold : (P Q : T → Type 0) (xs : List T) → AllByRecursion P xs → AllByRecursion Q xs → AllByRecursion (λ x. P x × Q x) xs
  both_hold P Q [] p q = tt
  both_hold P Q (x ∷ xs) p q = ((p.0, q.0), both_hold P Q xs p.1 q.1)

  pub weaken : (P Q : T → Type 0) → ((x : T) → P x → Q x) → (xs : List T) → AllByRecursion P xs → AllByRecursion Q xs
  weaken P Q f [] h = tt
  weaken P Q f (x ∷ xs) h = (f x h.0, weaken P Q f xs h.1)

-- the member's place is there
abbrev pub is_at : ℕ → Member → Bool
is_at places k = nat_lt k.place places

abbrev pub HasPlace : ℕ → Event → Type 0
HasPlace places event = option_map_or (λ place. nat_lt place places) (place_of event.body) true ≡ true

place_step : (places : ℕ) (body : Body) → AllByRecursion (λ k. is_at places k ≡ true) (cons_option (member_of body) []) → option_map_or (λ place. nat_lt place places) (place_of body) true ≡ true
place_step places (Join k peer callsign listens after) h = h.0
place_step places (Leave k why) h = h.0
place_step places (Packet k p) h = h.0
place_step places (Reply k control) h = h.0
place_step places Tick h = refl
place_step places Stop h = refl

split_option : (P : Member → Type 0) (o : Option Member) (rest : List Member) → AllByRecursion P (cons_option o rest) → AllByRecursion P (cons_option o []) × AllByRecursion P rest
split_option P None rest h = (tt, h)
split_option P (Some k) rest h = ((h.0, tt), h.1)

-- the members of events at places, event by event
events_at : (places : ℕ) (events : List Event) → AllByRecursion (λ k. is_at places k ≡ true) (filter_map (λ (event : Event). member_of event.body) events) → AllByRecursion (HasPlace places) events
events_at places [] h = tt
events_at places (e ∷ events) h =
    let (one, rest) = split_option (λ k. is_at places k ≡ true) (member_of e.body) (filter_map (λ (event : Event). member_of event.body) events) h in
    (place_step places e.body one, events_at places events rest)

claims_at : (test : Member → Bool) (entries : List Entry) → AllByRecursion (λ k. test k ≡ true) (claimed_members entries) → (n : ℕ) (claim : Claim) → claim_at entries n ≡ Some claim → test claim.member ≡ true
claims_at test [] h n claim e = absurd (none-some claim e)
claims_at test (entry ∷ entries) h zero claim e =
    let (one, rest) = split_option (λ k. test k ≡ true) (option_map (λ (claim : Claim). claim.member) entry.claim) (claimed_members entries) h in
    (subst (λ (o : Option Claim). AllByRecursion (λ k. test k ≡ true) (cons_option (option_map (λ (claim : Claim). claim.member) o) [])) e one).0
claims_at test (entry ∷ entries) h (suc n) claim e =
    let (one, rest) = split_option (λ k. test k ≡ true) (option_map (λ (claim : Claim). claim.member) entry.claim) (claimed_members entries) h in
    claims_at test entries rest n claim e

and_true : (a b : Bool) → a ≡ true → b ≡ true → a && b ≡ true
and_true true b e h = h
and_true false b e h = absurd cc

there_is : (links places : ℕ) (event : Event) → event.tag.link < links → HasPlace places event → is_there links places event ≡ true
there_is links places event lt h = and_true (nat_lt event.tag.link links) (option_map_or (λ place. nat_lt place places) (place_of event.body) true) (grind (arith, nat_tests)) h

-- Each event of a trail is there.
pub trail_is_there : RouteIsOfClaimed → (plan : Plan) (links : List Link) (m : ℕ) (trail : TrailEnd Event) → IsTrail plan links (letter_of plan m) trail → ((i : ℕ) (link : Link) → At links i link → AllByRecursion (λ k. is_at plan.places k ≡ true) (claimed_members link.entries)) → AllByRecursion (λ event. is_there (length links) plan.places event ≡ true) (events_of trail)
trail_is_there law plan links m trail is claimed =
    let letter = letter_of plan m in let order = events_of trail in
    let count : length (routes plan links letter) ≡ length links = numbered_length (route_of plan letter) 0 links in
    let below : AllByRecursion (λ (x : Event). link_of x < length links) order = subst (λ (n : ℕ). AllByRecursion (λ (x : Event). link_of x < n) order) count (recursion_from_All (λ (x : Event). link_of x < length (routes plan links letter)) order is.order.known) in
    let placed : AllByRecursion (HasPlace plan.places) order = all_from_parts (HasPlace plan.places) link_of (length links) order below (λ i lt.
    let (link, at) = at_below links i lt in
    subst (AllByRecursion (HasPlace plan.places)) (is.order.parts i (routed (link_setup plan i) link.entries letter) (routes_at plan links letter i link at))
    (events_at plan.places (routed (link_setup plan i) link.entries letter)
    (law (link_setup plan i) link.entries letter (is_at plan.places) (claims_at (is_at plan.places) link.entries (claimed i link at))))) in
    weaken (λ x. (link_of x < length links) × HasPlace plan.places x) (λ event. is_there (length links) plan.places event ≡ true)
    (λ x h. there_is (length links) plan.places x h.0 h.1) order
    (both_hold (λ (x : Event). link_of x < length links) (HasPlace plan.places) order below placed)

-- The members that the Joins of all trails name are the claims of all links, each as often.

-- what an event counts, by the member that it joins
abbrev weight : (Member → Bool) → Event → ℕ
weight test event = hits test (joiner_of event.body)

-- the same as a test of events
abbrev tests : (Member → Bool) → Event → Bool
tests test event = option_map_or test (joiner_of event.body) false

count_one : (test : Member → Bool) (event : Event) (o : Option Member) (rest : List Event) → joiner_of event.body ≡ o → cond (tests test event) 1 0 ≡ hits test o
count_one test event None rest e = ap (λ (o : Option Member). cond (option_map_or test o false) 1 0) e
count_one test event (Some k) rest e = ap (λ (o : Option Member). cond (option_map_or test o false) 1 0) e

-- an event is a Join exactly where it joins a member
no_joiner : (body : Body) → is_join body ≡ false → joiner_of body ≡ None
no_joiner (Join k x callsign listen after) e = absurd cc
no_joiner (Leave k why) e = refl
no_joiner (Packet k p) e = refl
no_joiner (Reply k control) e = refl
no_joiner Tick e = refl
no_joiner Stop e = refl

joins_step : (test : Member → Bool) (event : Event) (kept rest : List Event) (b : Bool) → is_join event.body ≡ b → count_by (tests test) kept ≡ sum_by (weight test) rest → count_by (tests test) (cond b (event ∷ kept) kept) ≡ weight test event + sum_by (weight test) rest
joins_step test event kept rest true e h =
    let a = sum_by-cons (λ (x : Event). cond (tests test x) 1 0) event kept in
    let c = count_one test event (joiner_of event.body) rest refl in omega arith
joins_step test event kept rest false e h =
    let none : weight test event ≡ 0 = ap (hits test) (no_joiner event.body e) in omega arith

-- what a route counts is what its Joins count
joins_alone : (test : Member → Bool) (events : List Event) → count_by (tests test) (filter (λ (event : Event). is_join event.body) events) ≡ sum_by (weight test) events
joins_alone test [] = refl
joins_alone test (event ∷ events) =
    joins_step test event (filter (λ (event : Event). is_join event.body) events) events (is_join event.body) refl (joins_alone test events)
    ∙ sym (sum_by-cons (weight test) event events)

all_alone : (test : Member → Bool) (events : List Event) → sum_by (weight test) events ≡ count_by (tests test) events
all_alone test [] = refl
all_alone test (event ∷ events) =
    let a = sum_by-cons (weight test) event events in let b = all_alone test events in
    let c = sum_by-cons (λ (x : Event). cond (tests test x) 1 0) event events in
    let d = count_one test event (joiner_of event.body) events refl in omega arith

-- all that one link's entries joined, over all modules
link_joins : JoinsOfAllModules → EachClaimJoins → (test : Member → Bool) (plan : Plan) (i : ℕ) (entries : List Entry) → ClaimsAreAsked (link_setup plan i) entries → sum_by (λ letter. sum_by (weight test) (routed (link_setup plan i) entries letter)) (letters_of plan.modules) ≡ count_by test (claimed_members entries)
link_joins law each test plan i entries asked =
    let setup = link_setup plan i in
    sum_same (λ letter. sum_by (weight test) (routed setup entries letter))
    (λ letter. count_by (tests test) (filter (λ (event : Event). is_join event.body) (routed setup entries letter))) (letters_of plan.modules)
    (λ letter. sym (joins_alone test (routed setup entries letter)))
    ∙ law setup entries (tests test) ∙ sym (all_alone test (all_joins setup entries))
    ∙ sym (count_mapped test (λ (event : Event). joiner_of event.body) (all_joins setup entries))
    ∙ ap (count_by test) (each.joins setup entries asked)

-- the claims of all links, in order
abbrev pub claims_in : List Link → List Member
claims_in links = flat_map (λ (link : Link). claimed_members link.entries) links

pub letter_at_place : (letters : List ℕ) (m letter : ℕ) → slice_get letters m ≡ Some letter → slice_index letters m ≡ letter
letter_at_place [] m letter e = absurd (none-some letter e)
letter_at_place (l ∷ letters) zero letter e = same_Some l letter e
letter_at_place (l ∷ letters) (suc m) letter e = letter_at_place letters m letter e

-- what each link's claims count
links_count : (test : Member → Bool) (F : ℕ × Link → ℕ) (k : ℕ) (links : List Link) → ((i j : ℕ) (link : Link) → j ≡ k + i → slice_get links i ≡ Some link → F (j, link) ≡ count_by test (claimed_members link.entries)) → sum_by F (enumerate_from k links) ≡ count_by test (claims_in links)
links_count test F k [] h = refl
links_count test F k (link ∷ links) h =
    let a = sum_by-cons F (k, link) (enumerate_from (k + 1) links) in
    let b = h 0 k link (omega arith) refl in
    let c = links_count test F (k + 1) links (λ i j l is e. h (suc i) j l (omega arith) e) in
    let d = sum_by-append (λ (m : Member). cond (test m) 1 0) (claimed_members link.entries) (claims_in links) in omega arith

-- The members of the Joins in all trails are the links' claims, each as often.
pub joins_are_claims : JoinsOfAllModules → EachClaimJoins → (plan : Plan) (links : List Link) (trails : List (TrailEnd Event)) → AreTrails plan links trails → ((i : ℕ) (link : Link) → At links i link → ClaimsAreAsked (link_setup plan i) link.entries) → AreSame (flat_map (λ trail. joiners (events_of trail)) trails) (claims_in links)
joins_are_claims law each plan links trails are asked test =
    let G : ℕ → ℕ × Link → ℕ = λ letter p. sum_by (weight test) (route_of plan letter p) in
    sum_flat (λ (m : Member). cond (test m) 1 0) (λ (trail : TrailEnd Event). joiners (events_of trail)) trails
    ∙ sum_beside (λ (trail : TrailEnd Event). count_by test (joiners (events_of trail)))
    (λ letter. sum_by (G letter) (enumerate_from 0 links)) trails (letters_of plan.modules) are.count
    (λ m trail letter et el.
    count_mapped test (λ (event : Event). joiner_of event.body) (events_of trail)
    ∙ interleaved (weight test) link_of (routes plan links (letter_of plan m)) (events_of trail) (are.each m trail et).order
    ∙ sum_map (sum_by (weight test)) (route_of plan (letter_of plan m)) (enumerate_from 0 links)
    ∙ ap (λ (l : ℕ). sum_by (G l) (enumerate_from 0 links)) (letter_at_place (letters_of plan.modules) m letter el))
    ∙ swap G (letters_of plan.modules) (enumerate_from 0 links)
    ∙ links_count test (λ p. sum_by (λ letter. G letter p) (letters_of plan.modules)) 0 links
    (λ i j link is e. link_joins law each test plan j link.entries
    (asked j link (let at : i ≡ j = omega arith in subst (λ (n : ℕ). slice_get links n ≡ Some link) at e)))
