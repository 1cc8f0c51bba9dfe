-- What the queues of a patient run carry weighs what its modules give.
use Rattle.std.proofs.Common.{◌≡◌, ◌==◌, ℕ, zero, suc, ◌+◌, ◌<◌, Bool, true, false, cond, List, [], ◌∷◌, ◌++◌, length, map, Some, sym, subst, refl, ap, ◌∙◌, arith}
use Rattle.std.specs.Prelude.{◌&&◌, slice_get, filter, sum_by}
use Rattle.std.specs.List.{AllByRecursion, flat_map, range_with_len}
use Rattle.std.proofs.lemmas.Bool.Decides.{nat_tests}
use Rattle.std.proofs.lemmas.List.Elements.{recursion_from_All, All-from_recursion}
use Rattle.std.proofs.lemmas.List.FromFn.{length-range_with_len}
use Rattle.std.proofs.lemmas.List.Sums.{sum_by-cons}
use Rattle.std.proofs.lemmas.Option.{same_Some, none-some}
use Rattle.m17_control.specs.declared.event.Event.{Event}
use Rattle.m17_control.specs.declared.item.Item.{Item}
use Rattle.m17_lane.specs.Ends.{TrailEnd}
use Rattle.m17_lane.specs.Orders as lane
use Rattle.m17_module.specs.Items.{Setup, items_at, items_given}
use Rattle.m17_module.specs.Laws.{ItemsAreAtPlaces, ItemsKeepLinks}
use Rattle.m17_worker.specs.Offers.{Try, queued_for}
use Rattle.m17_reflect.specs.Queues.{Carriers, Carry}
use Rattle.m17_replay.proofs.Lists.{of_number, numbered_sum, sum_beside, sum_flat}

module _ {A : Type 0} where
  pub all_at : (P : A → Type 0) (xs : List A) → AllByRecursion P xs → (i : ℕ) (x : A) → slice_get xs i ≡ Some x → P x
  all_at P [] h i x e = absurd (none-some x e)
  all_at P (y ∷ xs) h zero x e = subst P (same_Some y x e) h.0
  all_at P (y ∷ xs) h (suc i) x e = all_at P xs h.1 i x e

  pub all_in : (P : A → Type 0) (xs : List A) → ((i : ℕ) (x : A) → slice_get xs i ≡ Some x → P x) → AllByRecursion P xs
  all_in P [] h = tt
  all_in P (x ∷ xs) h = (h 0 x refl, all_in P xs (λ i y e. h (suc i) y e))

  all_append : (P : A → Type 0) (xs ys : List A) → AllByRecursion P xs → AllByRecursion P ys → AllByRecursion P (xs ++ ys)
  all_append P [] ys hx hy = hy
  all_append P (x ∷ xs) ys hx hy = (hx.0, all_append P xs ys hx.1 hy)

all_flat : {A B : Type 0} (P : B → Type 0) (f : A → List B) (xs : List A) → ((x : A) → AllByRecursion P (f x)) → AllByRecursion P (flat_map f xs)
all_flat P f [] h = tt
all_flat P f (x ∷ xs) h = all_append P (f x) (flat_map f xs) (h x) (all_flat P f xs h)

-- all that a module gives is at its places, and by link 0 where its events are
pub given_placed : ItemsAreAtPlaces → (setup : Setup) (events : List Event) → AllByRecursion (λ (item : Item). item.member.place < setup.places) (items_given setup events)
unfolding items_given
given_placed law setup events =
    all_flat (λ (item : Item). item.member.place < setup.places) (items_at setup events) (range_with_len 0 (length events))
    (λ n. recursion_from_All (λ (item : Item). item.member.place < setup.places) (items_at setup events n) (law setup events n))

pub given_linked : ItemsKeepLinks → (setup : Setup) (events : List Event) → ((i : ℕ) (event : Event) → slice_get events i ≡ Some event → event.tag.link ≡ 0) → AllByRecursion (λ (item : Item). item.link < 1) (items_given setup events)
unfolding items_given
given_linked law setup events none =
    all_flat (λ (item : Item). item.link < 1) (items_at setup events) (range_with_len 0 (length events))
    (λ n. recursion_from_All (λ (item : Item). item.link < 1) (items_at setup events n)
    (law setup events n 1 (All-from_recursion (λ (event : Event). event.tag.link < 1) events
    (all_in (λ (event : Event). event.tag.link < 1) events (λ i event at. omega (arith, none i event at))))))

swapped : (a b : ℕ) → (a == b) ≡ (b == a)
swapped a b = grind (arith, nat_tests)

module _ (w : Item → ℕ) where
  try_step : (b : Bool) (item : Item) (kept : List Item) → sum_by w (cond b (item ∷ kept) kept) ≡ cond b (w item) 0 + sum_by w kept
  try_step true item kept = sum_by-cons w item kept
  try_step false item kept = let z : sum_by w kept ≡ 0 + sum_by w kept = omega arith in z

  map_step : (b : Bool) (t : Try) (kept : List Try) → map (λ (t : Try). t.item) (cond b (t ∷ kept) kept) ≡ cond b (t.item ∷ map (λ (t : Try). t.item) kept) (map (λ (t : Try). t.item) kept)
  map_step true t kept = refl
  map_step false t kept = refl

  -- what the queue of a place took weighs what was tried there, where all of it was queued
  queue_weighs : (tries : List Try) (place : ℕ) → ((i : ℕ) (t : Try) → slice_get tries i ≡ Some t → t.queued ≡ true) → sum_by w (queued_for tries place) ≡ sum_by (of_number (λ (item : Item). item.member.place) w place) (map (λ (t : Try). t.item) tries)
  queue_weighs [] place all = refl
  queue_weighs (t ∷ tries) place all =
      let items = map (λ (t : Try). t.item) tries in
      let test : Bool = t.item.member.place == place in
      let passes : t.queued && (place == t.item.member.place) ≡ test = ap (λ b. b && (place == t.item.member.place)) (all 0 t refl) ∙ swapped place t.item.member.place in
      let kept = filter (λ (t : Try). t.queued && (place == t.item.member.place)) tries in
      ap (λ b. sum_by w (map (λ (t : Try). t.item) (cond b (t ∷ kept) kept))) passes
      ∙ ap (sum_by w) (map_step test t kept)
      ∙ try_step test t.item (queued_for tries place)
      ∙ ap (λ n. cond test (w t.item) 0 + n) (queue_weighs tries place (λ i u at. all (suc i) u at))
      ∙ sym (sum_by-cons (of_number (λ (item : Item). item.member.place) w place) t.item items)

abbrev pub of_queue : TrailEnd Item → List Item
of_queue queue = lane.items_of queue.order

range_is : (k n m x : ℕ) → slice_get (range_with_len k n) m ≡ Some x → x ≡ k + m
range_is k zero m x e = absurd (none-some x e)
range_is k (suc n) zero x e = omega (arith, same_Some k x e)
range_is k (suc n) (suc m) x e = omega (arith, range_is (k + 1) n m x e)

queued_by : (c : Carriers) (events : List Event) → c.patient ≡ true → (carry : Carry events c) → (i : ℕ) (t : Try) → slice_get carry.tries i ≡ Some t → (b : Bool) → t.queued ≡ b → b ≡ true
queued_by c events patient carry i t at true e = refl
queued_by c events patient carry i t at false e = absurd (let wrong : true ≡ false = sym patient ∙ (carry.left_out i t at e).impatient in cc)

queued_all : (c : Carriers) (events : List Event) → c.patient ≡ true → (carry : Carry events c) → (i : ℕ) (t : Try) → slice_get carry.tries i ≡ Some t → t.queued ≡ true
queued_all c events patient carry i t at = queued_by c events patient carry i t at t.queued refl

-- What the queues of a module carry weighs what its events give.
pub row_weighs : ItemsAreAtPlaces → (w : Item → ℕ) (events : List Event) (c : Carriers) → c.patient ≡ true → Carry events c → sum_by w (flat_map of_queue c.queues) ≡ sum_by w (items_given c.setup events)
row_weighs law w events c patient carry =
    let items = items_given c.setup events in
    let places = c.setup.places in
    let place_of : Item → ℕ = λ item. item.member.place in
    let placed = given_placed law c.setup events in
    sum_flat w of_queue c.queues
    ∙ sum_beside (λ queue. sum_by w (of_queue queue)) (λ q. sum_by (of_number place_of w q) items) c.queues (range_with_len 0 places)
    (carry.count ∙ sym (length-range_with_len 0 places))
    (λ m queue q at_queue at_q.
    let is : q ≡ m = omega (arith, range_is 0 places m q at_q) in
    ap (sum_by w) (carry.each m queue at_queue).order
    ∙ queue_weighs w carry.tries m (queued_all c events patient carry)
    ∙ ap (sum_by (of_number place_of w m)) carry.all_items
    ∙ ap (λ k. sum_by (of_number place_of w k) items) (sym is))
    ∙ numbered_sum place_of w places items (λ i item at. all_at (λ (item : Item). item.member.place < places) items placed i item at)
