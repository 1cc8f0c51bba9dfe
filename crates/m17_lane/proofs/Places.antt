-- One thing at one place of a row, and nothing at the others.
use Rattle.std.proofs.Common.{◌≡◌, ◌≢◌, ℕ, cond, List, [], ◌∷◌, map, set, get_or, sym, ap, ◌∙◌, eq-eqb, ne_eqb}
use Rattle.std.proofs.lemmas.List.{map-set, set-get_or}
use Rattle.std.proofs.Math.ListN.{get_or-map}
use Rattle.m17_lane.specs.Rows.{only}
use Rattle.m17_lane.specs.Grids.{only_in}

module _ {T : Type 0} where
  pub only_here : (m : ℕ) (x : T) (i : ℕ) → i ≡ m → only m x i ≡ x ∷ []
  only_here m x i is = ap (λ b. cond b (x ∷ []) []) (eq-eqb i m is)

  pub only_else : (m : ℕ) (x : T) (i : ℕ) → i ≢ m → only m x i ≡ []
  only_else m x i isnt = ap (λ b. cond b (x ∷ []) []) (ne_eqb i m isnt)

  pub in_here : (m q : ℕ) (x : T) (i j : ℕ) → i ≡ m → only_in m q x i j ≡ only q x j
  in_here m q x i j is = ap (λ b. cond b (only q x j) []) (eq-eqb i m is)

  pub in_else : (m q : ℕ) (x : T) (i j : ℕ) → i ≢ m → only_in m q x i j ≡ []
  in_else m q x i j isnt = ap (λ b. cond b (only q x j) []) (ne_eqb i m isnt)

module _ {A B : Type 0} (f : A → B) where
  -- what f shows of a place stays
  pub map_kept : (xs : List A) (m : ℕ) (was is : A) → was ≡ get_or xs m was → f is ≡ f was → map f (set xs m is) ≡ map f xs
  map_kept xs m was is at e =
      let there : f was ≡ get_or (map f xs) m (f was) = ap f at ∙ sym (get_or-map f xs m was) in
      map-set f xs m is ∙ ap (λ (y : B). set (map f xs) m y) (e ∙ there) ∙ set-get_or (map f xs) m (f was)
