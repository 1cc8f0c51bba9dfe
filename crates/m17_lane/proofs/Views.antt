-- The views of all passes: their parts, and what a change of one view leaves.
use Rattle.std.proofs.Common.{◌≡◌, ◌≢◌, ℕ, zero, suc, ◌+◌, ◌≤◌, ⊎_elim, List, [], ◌∷◌, ◌++◌, length, set, subst, sym, refl, ap, ◌∙◌, arith}
use mathlib.Core.Option.{some, some-injective, some-ne-none}
use native.Mathlib.Decide.{ℕ_discrete}
use lib.ListN.{get_elem?}
use Rattle.crossbeam_queue.proofs.Lists.{at_set, at_longer, set_here, set_else}
use Rattle.m17_lane.specs.declared.rule.Hand.{Hand}
use Rattle.m17_lane.specs.Orders.{HasLog}
use Rattle.m17_lane.specs.Rule.{parts_of, Covers, Last, AllFit}
use Rattle.m17_lane.proofs.Lists.{at_end, below}

module _ {T : Type 0} where
  pub parts_set : (vs : List (Hand T)) (i : ℕ) (v w : Hand T) → get_elem? vs i ≡ some v → parts_of (set vs i w) + v.parts ≡ parts_of vs + w.parts
  parts_set [] i v w e = absurd (some-ne-none v (sym e))
  parts_set (x ∷ xs) zero v w e = let s : x.parts ≡ v.parts = ap (λ (u : Hand T). u.parts) (some-injective x v e) in omega arith
  parts_set (x ∷ xs) (suc i) v w e = let ih = parts_set xs i v w e in omega arith

  pub parts_snoc : (vs : List (Hand T)) (w : Hand T) → parts_of (vs ++ w ∷ []) ≡ parts_of vs + w.parts
  parts_snoc [] w = omega arith
  parts_snoc (x ∷ xs) w = let ih = parts_snoc xs w in omega arith

  parts_one : (vs : List (Hand T)) (i : ℕ) (v : Hand T) → get_elem? vs i ≡ some v → v.parts ≤ parts_of vs
  parts_one [] i v e = absurd (some-ne-none v (sym e))
  parts_one (x ∷ xs) zero v e = let s : x.parts ≡ v.parts = ap (λ (u : Hand T). u.parts) (some-injective x v e) in omega arith
  parts_one (x ∷ xs) (suc i) v e = let ih = parts_one xs i v e in omega arith

  pub parts_two : (vs : List (Hand T)) (i j : ℕ) (v u : Hand T) → get_elem? vs i ≡ some v → get_elem? vs j ≡ some u → i ≢ j → v.parts + u.parts ≤ parts_of vs
  parts_two [] i j v u e d ne = absurd (some-ne-none v (sym e))
  parts_two (x ∷ xs) zero zero v u e d ne = absurd (ne refl)
  parts_two (x ∷ xs) zero (suc j) v u e d ne =
      let s : x.parts ≡ v.parts = ap (λ (y : Hand T). y.parts) (some-injective x v e) in let r = parts_one xs j u d in omega arith
  parts_two (x ∷ xs) (suc i) zero v u e d ne =
      let s : x.parts ≡ u.parts = ap (λ (y : Hand T). y.parts) (some-injective x u d) in let r = parts_one xs i v e in omega arith
  parts_two (x ∷ xs) (suc i) (suc j) v u e d ne = let ih = parts_two xs i j v u e d (λ is. ne (ap suc is)) in omega arith

  -- a property of each view after a change of one
  pub each_set : (F : ℕ → Hand T → Type 0) (views : List (Hand T)) (pass : ℕ) (w : Hand T) → F pass w → ((j : ℕ) (u : Hand T) → j ≢ pass → get_elem? views j ≡ some u → F j u) → AllFit F (set views pass w)
  each_set F views pass w mine others j u e = ⊎_elim
      (λ (x : (j ≡ pass) × (w ≡ u)). subst (λ (y : ℕ × Hand T). F y.0 y.1) (λ i. (sym x.0 i, x.1 i)) mine)
      (λ (x : (j ≢ pass) × (get_elem? views j ≡ some u)). others j u x.0 x.1) (at_set views pass j w u e)

  -- a property of each view, one view longer
  pub each_snoc : (F : ℕ → Hand T → Type 0) (views : List (Hand T)) (w : Hand T) → F (length views) w → AllFit F views → AllFit F (views ++ w ∷ [])
  each_snoc F views w mine others j u e = ⊎_elim
      (λ x. others j u x)
      (λ (x : (j ≡ length views) × (w ≡ u)). subst (λ (y : ℕ × Hand T). F y.0 y.1) (λ i. (sym x.0 i, x.1 i)) mine) (at_end views w u j e)

  pub same_at : (views : List (Hand T)) (i j : ℕ) (v u : Hand T) → i ≡ j → get_elem? views i ≡ some v → get_elem? views j ≡ some u → v ≡ u
  same_at views i j v u is e d = some-injective v u (sym e ∙ ap (λ k. get_elem? views k) is ∙ d)

  pub covers_set : (seat : ℕ → ℕ) (made : ℕ) (views : List (Hand T)) (pass : ℕ) (v w : Hand T) → get_elem? views pass ≡ some v → ((p : ℕ) → HasLog p v.logs → HasLog p w.logs) → Covers seat made views → Covers seat made (set views pass w)
  covers_set seat made views pass v w at keeps h p lt = let c = h p lt in elim (ℕ_discrete (seat p) pass) [
    | yes is ↦ (
      w,
      ap (λ i. get_elem? (set views pass w) i) is ∙ set_here views pass w (below views pass v at),
      keeps p (subst (λ (y : Hand T). HasLog p y.logs) (same_at views (seat p) pass c.0 v is c.1 at) c.2),
    )
    | no isnt ↦ (c.0, set_else views pass (seat p) w isnt ∙ c.1, c.2)
  ]

  pub last_set : (order : List (ℕ × T)) (views : List (Hand T)) (pass : ℕ) (v w : Hand T) → get_elem? views pass ≡ some v → (v.seen ≡ order → w.seen ≡ order) → Last order views → Last order (set views pass w)
  last_set order views pass v w at keeps l = elim (ℕ_discrete l.0 pass) [
    | yes is ↦ (
      pass,
      w,
      set_here views pass w (below views pass v at),
      keeps (sym (ap (λ (y : Hand T). y.seen) (same_at views l.0 pass l.1 v is l.2 at)) ∙ l.3),
    )
    | no isnt ↦ (l.0, l.1, set_else views pass l.0 w isnt ∙ l.2, l.3)
  ]

  pub covers_snoc : (seat : ℕ → ℕ) (made : ℕ) (views : List (Hand T)) (w : Hand T) → Covers seat made views → Covers seat made (views ++ w ∷ [])
  covers_snoc seat made views w h p lt = let c = h p lt in (c.0, at_longer views (w ∷ []) (seat p) c.0 c.1, c.2)

  pub last_snoc : (order : List (ℕ × T)) (views : List (Hand T)) (w : Hand T) → Last order views → Last order (views ++ w ∷ [])
  last_snoc order views w l = (l.0, l.1, at_longer views (w ∷ []) l.0 l.1 l.2, l.3)
