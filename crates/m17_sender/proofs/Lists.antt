-- What stands at a place of a list after one place was written, and one thing at one place of a grid.
use Rattle.std.proofs.Common.{◌≡◌, ◌≢◌, ◌⊎◌, inl, inr, ℕ, zero, suc, cond, List, [], ◌∷◌, map, set, Some, refl, ap, ◌∙◌, eq-eqb, ne_eqb}
use Rattle.std.specs.List.{slice_get}
use Rattle.std.proofs.lemmas.Bool.Decides.{eqb_tells}
use Rattle.std.proofs.lemmas.List.{map-set}
use Rattle.m17_lists.proofs.Places.{mapped_stands_there}
use Rattle.m17_lane.specs.Grids.{only_in}
use Rattle.m17_lane.specs.Rows.{only}

module _ {A : Type 0} where
  pub set_same : (xs : List A) (m : ℕ) (y : A) → slice_get xs m ≡ Some y → set xs m y ≡ xs
  set_same [] m y e = refl
  set_same (x ∷ xs) zero y e = let is : y ≡ x = cc in ap (λ (z : A). z ∷ xs) is
  set_same (x ∷ xs) (suc m) y e = ap (λ (l : List A). x ∷ l) (set_same xs m y e)

module _ {A B : Type 0} (f : A → B) where
  -- what maps to the same at one place maps to the same everywhere
  pub map_same : (xs : List A) (m : ℕ) (x y : A) → slice_get xs m ≡ Some x → f y ≡ f x → map f (set xs m y) ≡ map f xs
  map_same xs m x y e same =
      map-set f xs m y ∙ ap (λ (z : B). set (map f xs) m z) same ∙ set_same (map f xs) m (f x) (mapped_stands_there f xs m x e)

module _ {T : Type 0} where
  pub here : (m q : ℕ) (x : T) → only_in m q x m q ≡ x ∷ []
  here m q x =
      ap (λ b. cond b (only q x q) []) (eq-eqb m m refl) ∙ ap (λ b. cond b (x ∷ []) []) (eq-eqb q q refl)

  pub other_row : (m q : ℕ) (x : T) (a b : ℕ) → a ≢ m → only_in m q x a b ≡ []
  other_row m q x a b ne = ap (λ c. cond c (only q x b) []) (ne_eqb a m ne)

  pub other_place : (m q : ℕ) (x : T) (a b : ℕ) → b ≢ q → only_in m q x a b ≡ []
  other_place m q x a b ne = elim (eqb_tells a m) [
    | inl is ↦ ap (λ c. cond c (only q x b) []) is.0 ∙ ap (λ c. cond c (x ∷ []) []) (ne_eqb b q ne)
    | inr isnt ↦ ap (λ c. cond c (only q x b) []) isnt.0
  ]

  -- a place is this one, or it has nothing
  pub at_or_else : (m q : ℕ) (x : T) (a b : ℕ)
      → ((a ≡ m) × (b ≡ q)) ⊎ (((a ≢ m) ⊎ (b ≢ q)) × (only_in m q x a b ≡ []))
  at_or_else m q x a b = elim (eqb_tells a m) [
    | inl is ↦ elim (eqb_tells b q) [
      | inl at ↦ inl (is.1, at.1)
      | inr isnt ↦ inr (inr isnt.1, other_place m q x a b isnt.1)
    ]
    | inr isnt ↦ inr (inl isnt.1, other_row m q x a b isnt.1)
  ]
