-- What a module gives to a peer stands behind the Join of its member, which the peer's link routed.
use Rattle.std.proofs.Common.{◌≡◌, ℕ, suc, ◌+◌, ◌<◌, ◌≤◌, Bool, true, false, List, [], ◌∷◌, length, sym, ap, ◌∙◌, subst, arith, inl, inr, Some, Contains}
use Rattle.std.specs.Prelude.{◌==◌, not, drop, filter, slice_get, take}
use Rattle.std.specs.List.{range_with_len}
use Rattle.std.proofs.lemmas.Bool.{eq-eqb, eqb-true, true_from_ne_false}
use Rattle.std.proofs.lemmas.List.{length-take-le, take-append-drop}
use Rattle.std.proofs.lemmas.List.Elements.{All-contains, Contains-append_left}
use Rattle.std.proofs.lemmas.List.FromFn.{get_or-range_with_len, length-range_with_len}
use Rattle.std.proofs.lemmas.List.Sums.{length-filter}
use Rattle.m17_lists.proofs.Tests.{both_are_true}
use Rattle.m17_lists.proofs.Places.{numbered_stands_there}
use Rattle.m17_lists.proofs.Contents.{nothing_is_in_none, first_is_in, is_first_or_in_rest, is_given_by_one, filtered_was_in, what_passes_is_in, what_has_a_place_is_in}
use Rattle.m17_laws.proofs.Listed.{passes_step}
use Rattle.m17_values.specs.declared.member.Member.{Member}
use Rattle.m17_control.specs.declared.event.Event.{Event}
use Rattle.m17_control.specs.declared.item.Item.{Item}
use Rattle.m17_floor.specs.Acts.{is_same}
use Rattle.m17_module.specs.Items.{Setup, items_at, items_given}
use Rattle.m17_module.specs.Laws.{FollowsJoin, ItemsFollowTheirJoins, LaterEventsChangeNoItems}
use Rattle.m17_directory.specs.Routed.{routed}
use Rattle.m17_lane.specs.Ends.{TrailEnd}
use Rattle.m17_lane.specs.Orders.{picked}
use Rattle.m17_plan.specs.declared.plan.Plan.{Plan}
use Rattle.m17_reflect.specs.Links.{At, Link, link_setup, route_of, routes}
use Rattle.m17_reflect.specs.Places.{AreSame}
use Rattle.m17_reflect.specs.Trails.{IsTrail, events_of}

-- a member that is the same has the same place
pub same_place : (a b : Member) → is_same a b ≡ true → a.place ≡ b.place
same_place a b h =
    eqb-true a.place b.place (both_are_true (a.place == b.place) (a.generation == b.generation) h).0

module _ {A : Type 0} where
  some_there : (xs : List A) → 0 < length xs → (x : A) × Contains xs x
  some_there [] more = absurd (omega arith)
  some_there (x ∷ xs) more = (x, first_is_in xs x)

  none_out : (test : A → Bool) (all among : List A) (x : A) → AreSame (filter test all) among → Contains among x
      → test x ≡ false → ⊥
  none_out test all among x same h out =
      let there : Contains (filter (λ y. not (test y)) among) x =
      what_passes_is_in (λ y. not (test y)) among x h (ap not out) in
      let as_many : length (filter (λ y. not (test y)) among) ≡ length (filter (λ y. not (test y)) (filter test all)) =
      length-filter (λ y. not (test y)) among ∙ sym (same (λ y. not (test y)))
      ∙ sym (length-filter (λ y. not (test y)) (filter test all)) in
      let lt = there.1 in
      let (y, left) = some_there (filter (λ y. not (test y)) (filter test all)) (omega arith) in
      let (inside, refused) = filtered_was_in (λ y. not (test y)) (filter test all) y left in
      let wrong : false ≡ true = sym (ap not (filtered_was_in test all y inside).1) ∙ refused in cc

  -- what is the same as what passes a test passes it
  pub passes_too : (test : A → Bool) (all among : List A) (x : A) → AreSame (filter test all) among
      → Contains among x → test x ≡ true
  passes_too test all among x same h = true_from_ne_false (test x) (none_out test all among x same h)

  -- what stands among the first stands there
  pub from_front : (k : ℕ) (xs : List A) (p : ℕ) (x : A) → slice_get (take k xs) p ≡ Some x → Contains xs x
  from_front k xs p x e =
      subst (λ l. Contains l x) (take-append-drop k xs)
      (Contains-append_left (take k xs) (drop k xs) x (what_has_a_place_is_in (take k xs) p x e))

  -- what has a number stands among what is picked by it
  picked_there : (f : A → ℕ) (k : ℕ) (xs : List A) (x : A) → Contains xs x → f x ≡ k → Contains (picked f k xs) x
  picked_there f k [] x h is = absurd (nothing_is_in_none x h)
  picked_there f k (y ∷ xs) x h is = passes_step (f y == k) y (picked f k xs) x (elim (is_first_or_in_rest y xs x h) [
    | inl same ↦ inr (same, eq-eqb (f y) k (ap f same ∙ is))
    | inr more ↦ inl (picked_there f k xs x more is)
  ])

in_range : (n len : ℕ) → Contains (range_with_len 0 len) n → n < len
in_range n len h =
    let lt = h.1 in let all = length-range_with_len 0 len in
    let there : h.0 < len = omega arith in
    let is : n ≡ 0 + h.0 = sym h.2 ∙ get_or-range_with_len 0 len h.0 n there in omega arith

-- An item is given at a position, and follows a Join of its member there or before it.
pub record GivenAt (setup : Setup) (events : List Event) (item : Item) : Type 0 where
  pub n : ℕ
  pub gives : Contains (items_at setup events n) item
  pub join : FollowsJoin (take (suc n) events) item

pub given_at : LaterEventsChangeNoItems → ItemsFollowTheirJoins → (setup : Setup) (events : List Event) (item : Item)
    → Contains (items_given setup events) item → GivenAt setup events item
unfolding items_given
given_at later joins setup events item h =
    let (n, in_events, at_n) = is_given_by_one (items_at setup events) (range_with_len 0 (length events)) item h in
    let lt = in_range n (length events) in_events in
    let enough : suc n ≤ length events = omega arith in
    let long = length-take-le (suc n) events enough in
    let early : items_at setup events n ≡ items_at setup (take (suc n) events) n =
    ap (λ (l : List Event). items_at setup l n) (sym (take-append-drop (suc n) events))
    ∙ later setup (take (suc n) events) (drop (suc n) events) n (omega arith) in
    record {
      n = n;
      gives = at_n;
      join = All-contains (FollowsJoin (take (suc n) events)) (items_at setup (take (suc n) events) n) item
          (joins.at setup (take (suc n) events) n) (subst (λ l. Contains l item) early at_n);
    }

-- what stands in a trail by a link was routed by it
pub routed_by : (plan : Plan) (links : List Link) (letter i : ℕ) (link : Link) (trail : TrailEnd Event) (event : Event)
    → IsTrail plan links letter trail → At links i link → Contains (events_of trail) event → event.tag.link ≡ i
    → Contains (routed (link_setup plan i) link.entries letter) event
routed_by plan links letter i link trail event is at h by_it =
    let route : slice_get (routes plan links letter) i ≡ Some (routed (link_setup plan i) link.entries letter) =
    numbered_stands_there (route_of plan letter) 0 links i i link (omega arith) at in
    subst (λ l. Contains l event)
    (sym (is.order.parts i (routed (link_setup plan i) link.entries letter) route))
    (picked_there (λ (e : Event). e.tag.link) i (events_of trail) event h by_it)
