-- What the one link routes is the trail of its module, and its tape has its verdicts.
use Rattle.std.proofs.Common.{◌≡◌, ◌==◌, ℕ, zero, suc, ◌+◌, ◌<◌, ◌≤◌, Bool, true, false, cond, List, [], ◌∷◌, length, map, Option, None, Some, sym, subst, refl, ap, ◌∙◌, arith}
use Rattle.std.specs.Prelude.{slice_get}
use Rattle.std.specs.List.{AllByRecursion, filter_map, cons_option, range_with_len}
use Rattle.std.proofs.lemmas.Bool.{eq-eqb}
use Rattle.std.proofs.lemmas.List.Elements.{recursion_from_All}
use Rattle.std.proofs.lemmas.Option.{same_Some}
use Rattle.m17_control.specs.declared.event.Event.{Event}
use Rattle.m17_directory.specs.declared.verdict.LinkVerdict.{LinkVerdict}
use Rattle.m17_directory.specs.Entries.{Entry, Setup}
use Rattle.m17_directory.specs.Routed.{link_verdict, routed}
use Rattle.m17_lane.specs.Ends.{TrailEnd}
use Rattle.m17_lane.specs.Orders.{picked}
use Rattle.m17_plan.specs.declared.plan.Plan.{Plan}
use Rattle.m17_plan.specs.Planned.{setup_of}
use Rattle.m17_reflect.specs.Judged.{IsLinkTape}
use Rattle.m17_reflect.specs.Links.{Link}
use Rattle.m17_reflect.specs.Trails.{events_of, IsTrail}

pick_step : (b : Bool) (x : Event) (xs kept : List Event) → b ≡ true → kept ≡ xs → cond b (x ∷ kept) kept ≡ x ∷ xs
pick_step true x xs kept e same = ap (λ (l : List Event). x ∷ l) same
pick_step false x xs kept e same = absurd cc

abbrev link_of : Event → ℕ
link_of event = event.tag.link

-- where all are of one number, all are picked
picked_all : (xs : List Event) → AllByRecursion (λ (x : Event). link_of x < 1) xs → picked link_of 0 xs ≡ xs
picked_all [] h = refl
picked_all (x ∷ xs) h =
    let none : link_of x ≡ 0 = omega (arith, h.0) in
    pick_step (link_of x == 0) x xs (picked link_of 0 xs) (eq-eqb (link_of x) 0 none) (picked_all xs h.1)

route_of_one : (plan : Plan) (link : Link) (letter : ℕ) (trail : TrailEnd Event) → IsTrail plan (link ∷ []) letter trail → events_of trail ≡ routed (setup_of plan) link.entries letter
route_of_one plan link letter trail t =
    sym (picked_all (events_of trail) (recursion_from_All (λ (x : Event). link_of x < 1) (events_of trail) t.order.known))
    ∙ sym (t.order.parts 0 (routed (setup_of plan) link.entries letter) refl)

-- The trail of a module is what the one link routes to it.
pub route_is : (plan : Plan) (links : List Link) (link : Link) (letter : ℕ) (trail : TrailEnd Event) → links ≡ link ∷ [] → IsTrail plan links letter trail → events_of trail ≡ routed (setup_of plan) link.entries letter
route_is plan links link letter trail e t = route_of_one plan link letter trail (subst (λ (ls : List Link). IsTrail plan ls letter trail) e t)

module _ {A : Type 0} where
  some_step : (c : Option A) (x : A) (rest done : List A) → c ≡ Some x → rest ≡ done → cons_option c rest ≡ x ∷ done
  some_step None x rest done e same = absurd cc
  some_step (Some y) x rest done e same = ap (λ (z : A). z ∷ rest) (same_Some y x e) ∙ ap (λ (l : List A). x ∷ l) same

  none_step : (c : Option A) (rest : List A) → c ≡ None → rest ≡ [] → cons_option c rest ≡ []
  none_step None rest e same = same
  none_step (Some y) rest e same = absurd cc

  -- cells that are filled up to a number, and empty behind it
  filled_cells : (f : ℕ → A) (k n : ℕ) (tape : List (Option A)) → n ≤ length tape → ((i j : ℕ) → j ≡ k + i → i < n → slice_get tape i ≡ Some (Some (f j))) → ((i : ℕ) → n ≤ i → i < length tape → slice_get tape i ≡ Some None) → filter_map (λ (cell : Option A). cell) tape ≡ map f (range_with_len k n)
  filled_cells f k zero [] fits filled empty = refl
  filled_cells f k (suc n) [] fits filled empty = absurd (omega arith)
  filled_cells f k zero (c ∷ tape) fits filled empty =
      none_step c (filter_map (λ (cell : Option A). cell) tape) (same_Some c None (empty 0 (omega arith) (omega arith)))
      (filled_cells f k zero tape (omega arith) (λ i j e lt. absurd (omega arith)) (λ i le lt. empty (suc i) (omega arith) (omega arith)))
  filled_cells f k (suc n) (c ∷ tape) fits filled empty =
      some_step c (f k) (filter_map (λ (cell : Option A). cell) tape) (map f (range_with_len (k + 1) n)) (same_Some c (Some (f k)) (filled 0 k (omega arith) (omega arith)))
      (filled_cells f (k + 1) n tape (omega arith) (λ i j e lt. filled (suc i) j (omega arith) (omega arith)) (λ i le lt. empty (suc i) (omega arith) (omega arith)))

-- The tape of a link has the verdicts of its entries.
pub verdicts_are : (setup : Setup) (entries : List Entry) (cells : ℕ) (tape : List (Option LinkVerdict)) → IsLinkTape setup entries cells tape → length entries ≤ cells → filter_map (λ (cell : Option LinkVerdict). cell) tape ≡ map (link_verdict setup entries) (range_with_len 0 (length entries))
verdicts_are setup entries cells tape t fits =
    filled_cells (link_verdict setup entries) 0 (length entries) tape (omega (arith, t.length_is))
    (λ i j e lt. let same : i ≡ j = omega arith in t.filled i (omega arith) lt ∙ ap (λ m. Some (Some (link_verdict setup entries m))) same)
    (λ i le lt. t.empty i (omega (arith, t.length_is)) le)
