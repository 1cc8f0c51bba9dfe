-- What one push or pop at one place comes to for the whole row, and what one order more comes to.
use Rattle.std.proofs.Common.{◌≡◌, ◌≢◌, ℕ, zero, suc, ◌<◌, ◌≤◌, List, [], ◌∷◌, ◌++◌, map, length, set, get_or, replicate, Option, None, Some, Result, Ok, Err, MatchOption, MatchResult, IfErr, IfSome, sym, subst, refl, ap, ◌∙◌, append_assoc, append-nil, arith}
use Rattle.std.proofs.lemmas.Option.{slice_get-get_or}
use Rattle.std.proofs.lemmas.List.{length-map, map-set, set-get_or}
use Rattle.std.specs.Prelude.{slice_get}
use Rattle.std.proofs.Math.ListN.{get_or-map}
use Rattle.m17_lane.specs.Ends.{PushEnd, PopEnd, pushed_to, refused_by, popped_from}
use Rattle.m17_lane.specs.Rows.{pushes, grows, pops, push_each, grow_each, pop_each, only, nowhere, IsNewPopper}
use Rattle.m17_lane.specs.Grids.{pop_grid, only_in}
use Rattle.m17_lane.proofs.Places.{map_kept}
use Rattle.m17_lane.proofs.Pushes.{placed as push_placed}
use Rattle.m17_lane.proofs.Pops.{placed as pop_placed}
use Rattle.m17_lane.proofs.Grown.{placed as grow_placed, here, none_here}
use Rattle.m17_lane.proofs.Grids.{placed as grid_placed}

module _ {T : Type 0} where
  pub pushed_at : (ps : List (PushEnd T)) (m : ℕ) (p q : PushEnd T) (x : T) → m < length ps → p ≡ get_or ps m p → q ≡ pushed_to p x → set ps m q ≡ push_each (only m x) 0 ps
  pushed_at ps m p q x lt is e =
      ap (λ (r : PushEnd T). set ps m r) e ∙ ap (λ (r : PushEnd T). set ps m (pushes r (x ∷ []))) is
      ∙ push_placed m x 0 ps m p (omega arith) lt

  queued_at : (ps : List (PushEnd T)) (m : ℕ) (p q : PushEnd T) (x : T) → m < length ps → p ≡ get_or ps m p → q ≡ pushed_to p x → set ps m q ≡ grow_each (only m x) nowhere 0 ps
  queued_at ps m p q x lt is e =
      let same : q ≡ grows p (x ∷ []) [] = e ∙ ap (λ (l : List T). record p { pushed = p.pushed ++ x ∷ []; refused = l }) (sym (append-nil p.refused)) in
      ap (λ (r : PushEnd T). set ps m r) same ∙ ap (λ (r : PushEnd T). set ps m (grows r (x ∷ []) [])) is
      ∙ grow_placed (only m x) nowhere m (x ∷ []) [] 0 ps m p (here m x) (none_here m) (omega arith) lt

  back_at : (ps : List (PushEnd T)) (m : ℕ) (p q : PushEnd T) (x : T) → m < length ps → p ≡ get_or ps m p → q ≡ refused_by p x → set ps m q ≡ grow_each nowhere (only m x) 0 ps
  back_at ps m p q x lt is e =
      let same : q ≡ grows p [] (x ∷ []) = e ∙ ap (λ (l : List T). record p { pushed = l; refused = p.refused ++ x ∷ [] }) (sym (append-nil p.pushed)) in
      ap (λ (r : PushEnd T). set ps m r) same ∙ ap (λ (r : PushEnd T). set ps m (grows r [] (x ∷ []))) is
      ∙ grow_placed nowhere (only m x) m [] (x ∷ []) 0 ps m p (none_here m) (here m x) (omega arith) lt

  pub tried_at : {U : Type 0} (r : Result U T) (ps : List (PushEnd T)) (m : ℕ) (p q : PushEnd T) (x : T) → m < length ps → p ≡ get_or ps m p
      → MatchResult r (λ _. q ≡ pushed_to p x) (λ back. (back ≡ x) × (q ≡ refused_by p x))
      → MatchResult r (λ _. set ps m q ≡ grow_each (only m x) nowhere 0 ps) (λ back. (back ≡ x) × (set ps m q ≡ grow_each nowhere (only m x) 0 ps))
  tried_at (Ok u) ps m p q x lt is e = queued_at ps m p q x lt is e
  tried_at (Err back) ps m p q x lt is e = (e.0, back_at ps m p q x lt is e.1)

  pub full_at : {U : Type 0} (r : Result U T) (ps : List (PushEnd T)) (m : ℕ) (p : PushEnd T) → m < length ps → p ≡ get_or ps m p
      → IfErr r (λ _. p.producers ≡ 1 → p.capacity ≤ length p.pushed)
      → IfErr r (λ _. IfSome (slice_get ps m) (λ q. q.producers ≡ 1 → q.capacity ≤ length q.pushed))
  full_at (Ok u) ps m p lt is e = tt
  full_at (Err back) ps m p lt is e =
      let there : Some p ≡ slice_get ps m = ap (λ (q : PushEnd T). Some q) is ∙ sym (slice_get-get_or ps m p lt) in
      subst (λ (o : Option (PushEnd T)). IfSome o (λ q. q.producers ≡ 1 → q.capacity ≤ length q.pushed)) there e

  pub popped_at : (r : Option T) (ps : List (PopEnd T)) (m : ℕ) (p q : PopEnd T) → m < length ps → p ≡ get_or ps m p
      → MatchOption r (q ≡ p) (λ x. q ≡ popped_from p x)
      → MatchOption r (set ps m q ≡ ps) (λ x. set ps m q ≡ pop_each (only m x) 0 ps)
  popped_at None ps m p q lt is e = ap (λ (s : PopEnd T). set ps m s) (e ∙ is) ∙ set-get_or ps m p
  popped_at (Some x) ps m p q lt is e =
      ap (λ (s : PopEnd T). set ps m s) e ∙ ap (λ (s : PopEnd T). set ps m (pops s (x ∷ []))) is
      ∙ pop_placed m x 0 ps m p (omega arith) lt

  -- the rows of a grid are what `items` shows of its members
  pub popped_in : {V : Type 0} (items : V → List (PopEnd T)) (r : Option T) (grid : List V) (m q : ℕ) (was is : V) → m < length grid → was ≡ get_or grid m was
      → MatchOption r (items is ≡ items was) (λ x. items is ≡ pop_each (only q x) 0 (items was))
      → MatchOption r (map items (set grid m is) ≡ map items grid) (λ x. map items (set grid m is) ≡ pop_grid (only_in m q x) 0 (map items grid))
  popped_in items None grid m q was is lt at e = map_kept items grid m was is at e
  popped_in items (Some x) grid m q was is lt at e =
      let there : items was ≡ get_or (map items grid) m (items was) = ap items at ∙ sym (get_or-map items grid m was) in
      let long : length (map items grid) ≡ length grid = length-map grid items in
      map-set items grid m is ∙ ap (λ (l : List (PopEnd T)). set (map items grid) m l) e
      ∙ ap (λ (l : List (PopEnd T)). set (map items grid) m (pop_each (only q x) 0 l)) there
      ∙ grid_placed m q x 0 (map items grid) m (items was) (omega arith) (omega arith)

  copies_end : (n : ℕ) (x : T) → replicate n x ++ x ∷ [] ≡ x ∷ replicate n x
  copies_end zero x = refl
  copies_end (suc n) x = ap (λ (l : List T). x ∷ l) (copies_end n x)

  -- one x more was popped
  pub once_more : (before now next : PopEnd T) (n : ℕ) (x y : T) → now ≡ pops before (replicate n x) → next ≡ popped_from now y → y ≡ x → next ≡ pops before (replicate (suc n) x)
  once_more before now next n x y so_far e is =
      e ∙ ap (λ (s : PopEnd T). popped_from s y) so_far ∙ ap (λ (z : T). popped_from (pops before (replicate n x)) z) is
      ∙ ap (λ (l : List T). record before { popped = l }) (append_assoc before.popped (replicate n x) (x ∷ []) ∙ ap (λ (l : List T). before.popped ++ l) (copies_end n x))

  -- a first item that is not x is the one behind the copies of x, and there are none
  first_is : (n : ℕ) (x y z : T) (more rest : List T) → y ∷ more ≡ (replicate n x ++ z ∷ []) ++ rest → y ≢ x → (y ≡ z) × (replicate n x ++ z ∷ [] ≡ y ∷ [])
  first_is zero x y z more rest e isnt = let same : y ≡ z = ap (λ (l : List T). get_or l 0 z) e in (same, ap (λ (w : T). w ∷ []) (sym same))
  first_is (suc n) x y z more rest e isnt = absurd (isnt (ap (λ (l : List T). get_or l 0 x) e))

  pub decides : (before after : PopEnd T) (n : ℕ) (x y z : T) (more rest : List T) → IsNewPopper before → after ≡ pops before (replicate n x ++ z ∷ []) → y ∷ more ≡ after.popped ++ rest → y ≢ x → (y ≡ z) × (after.popped ≡ y ∷ [])
  decides before after n x y z more rest none is e isnt =
      let popped : after.popped ≡ replicate n x ++ z ∷ [] = ap (λ (p : PopEnd T). p.popped) is ∙ ap (λ (l : List T). l ++ (replicate n x ++ z ∷ [])) none in
      let both = first_is n x y z more rest (e ∙ ap (λ (l : List T). l ++ rest) popped) isnt in
      (both.0, popped ∙ both.1)
