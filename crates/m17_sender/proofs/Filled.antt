-- One cell more is filled, or one is emptied.
use Rattle.std.proofs.Common.{◌≡◌, ◌≢◌, ◌⊎◌, inl, inr, ℕ, zero, suc, ◌<◌, List, [], ◌∷◌, ◌++◌, map, length, set, get_or, Option, None, Some, sym, ap, subst, ◌∙◌, arith}
use Rattle.std.specs.List.{slice_get}
use Rattle.std.proofs.lemmas.List.{append-nil, length-set, map-set, length-map}
use Rattle.std.proofs.lemmas.Bool.Decides.{eqb_tells}
use Rattle.m17_lists.proofs.Places.{written_stands_there, other_places_stay, read_stands_there, mapped_stands_there}
use Rattle.m17_control.specs.declared.item.Item.{Item}
use Rattle.m17_lane.specs.Grids.{only_in}
use Rattle.m17_sender.specs.Cells.{HasPlace, HoldsMore}
use Rattle.m17_sender.specs.Places.{at_place, held_at, held_in, in_row}
use Rattle.m17_sender.proofs.Lists.{map_same, here, at_or_else}

module _ {A : Type 0} where
  pub put_here : (rows : List (List A)) (m q : ℕ) (row : List A) (c : A)
      → slice_get rows m ≡ Some row → m < length rows → q < length row
      → at_place (set rows m (set row q c)) m q ≡ Some c
  put_here rows m q row c e lt within =
      ap (λ (r : Option (List A)). in_row r q) (written_stands_there rows m (set row q c) lt) ∙ written_stands_there row q c within

  pub put_else : (rows : List (List A)) (m q : ℕ) (row : List A) (c : A) (a b : ℕ)
      → slice_get rows m ≡ Some row → m < length rows → (a ≢ m) ⊎ (b ≢ q)
      → at_place (set rows m (set row q c)) a b ≡ at_place rows a b
  put_else rows m q row c a b e lt (inl ne) = ap (λ (r : Option (List A)). in_row r b) (other_places_stay rows m a (set row q c) ne)
  put_else rows m q row c a b e lt (inr ne) = elim (eqb_tells a m) [
    | inl is ↦ ap (λ (n : ℕ). at_place (set rows m (set row q c)) n b) is.1
        ∙ ap (λ (r : Option (List A)). in_row r b) (written_stands_there rows m (set row q c) lt)
        ∙ other_places_stay row q b c ne
        ∙ sym (ap (λ (r : Option (List A)). in_row r b) e)
        ∙ sym (ap (λ (n : ℕ). at_place rows n b) is.1)
    | inr isnt ↦ ap (λ (r : Option (List A)). in_row r b) (other_places_stay rows m a (set row q c) isnt.1)
  ]

  pub in_lists : (rows : List (List A)) (m q : ℕ) → HasPlace rows m q → m < length rows
  in_lists [] m q p = let e = p.is_row in absurd (let bad : ⊥ = cc in bad)
  in_lists (r ∷ rs) zero q p = omega arith
  in_lists (r ∷ rs) (suc m) q p =
      let rest : HasPlace rs m q = record { row = p.row; is_row = p.is_row; within = p.within } in
      let lt = in_lists rs m q rest in omega arith

abbrev items : List (List (Option Item)) → ℕ → ℕ → List Item
items rows a b = held_at rows a b

-- a free cell is filled
pub fills : (rows : List (List (Option Item))) (m q : ℕ) (row : List (Option Item)) (x : Item)
    → slice_get rows m ≡ Some row → m < length rows → q < length row → held_at rows m q ≡ []
    → HoldsMore rows (set rows m (set row q (Some x))) m q x
fills rows m q row x e lt within free = record {
  each = λ a b. elim (at_or_else m q x a b) [
    | inl is ↦ ap (λ (n : ℕ). items (set rows m (set row q (Some x))) n b) is.0
        ∙ ap (λ (n : ℕ). items (set rows m (set row q (Some x))) m n) is.1
        ∙ ap held_in (put_here rows m q row (Some x) e lt within)
        ∙ sym (ap (λ (n : ℕ). items rows n b ++ only_in m q x n b) is.0
        ∙ ap (λ (n : ℕ). items rows m n ++ only_in m q x m n) is.1
        ∙ ap (λ (l : List Item). l ++ only_in m q x m q) free ∙ here m q x)
    | inr isnt ↦ ap held_in (put_else rows m q row (Some x) a b e lt isnt.0)
        ∙ sym (ap (λ (l : List Item). items rows a b ++ l) isnt.1 ∙ append-nil (items rows a b))
  ];
  free = free;
  shape = map_same length rows m row (set row q (Some x)) e (length-set row q (Some x));
}

-- a cell with an item is emptied
pub empties : (rows : List (List (Option Item))) (m q : ℕ) (row : List (Option Item)) (x : Item)
    → slice_get rows m ≡ Some row → m < length rows → q < length row → held_at rows m q ≡ x ∷ []
    → HoldsMore (set rows m (set row q None)) rows m q x
empties rows m q row x e lt within held = record {
  each = λ a b. elim (at_or_else m q x a b) [
    | inl is ↦ ap (λ (n : ℕ). items rows n b) is.0 ∙ ap (λ (n : ℕ). items rows m n) is.1 ∙ held
        ∙ sym (ap (λ (n : ℕ). items (set rows m (set row q None)) n b ++ only_in m q x n b) is.0
        ∙ ap (λ (n : ℕ). items (set rows m (set row q None)) m n ++ only_in m q x m n) is.1
        ∙ ap (λ (l : List Item). l ++ only_in m q x m q) (ap held_in (put_here rows m q row None e lt within))
        ∙ here m q x)
    | inr isnt ↦ sym (ap held_in (put_else rows m q row None a b e lt isnt.0))
        ∙ sym (ap (λ (l : List Item). items (set rows m (set row q None)) a b ++ l) isnt.1
        ∙ append-nil (items (set rows m (set row q None)) a b))
  ];
  free = ap held_in (put_here rows m q row None e lt within);
  shape = sym (map_same length rows m row (set row q None) e (length-set row q None));
}

-- the same for a grid of rows that have more than their items
module _ {V : Type 0} (its : V → List (Option Item)) where
  pub row_of : (cells : List V) (m q : ℕ) (was : V) → HasPlace (map its cells) m q
      → was ≡ get_or cells m was → (m < length cells) × (slice_get cells m ≡ Some was)
      × (slice_get (map its cells) m ≡ Some (its was)) × (m < length (map its cells)) × (q < length (its was))
  row_of cells m q was place at =
      let long : length (map its cells) ≡ length cells = length-map cells its in
      let lt : m < length (map its cells) = in_lists (map its cells) m q place in
      let less : m < length cells = omega arith in
      let is = read_stands_there cells m was less at in
      let row = mapped_stands_there its cells m was is in
      let same : place.row ≡ its was = let e = place.is_row in cc in
      (less, is, row, lt, subst (λ (r : List (Option Item)). q < length r) same place.within)

  pub fills_row : (cells : List V) (m q : ℕ) (was now : V) (x : Item) → HasPlace (map its cells) m q
      → was ≡ get_or cells m was → its now ≡ set (its was) q (Some x) → held_at (map its cells) m q ≡ []
      → HoldsMore (map its cells) (map its (set cells m now)) m q x
  fills_row cells m q was now x place at is free =
      let p = row_of cells m q was place at in
      subst (λ (l : List (List (Option Item))). HoldsMore (map its cells) l m q x)
      (sym (map-set its cells m now ∙ ap (λ (r : List (Option Item)). set (map its cells) m r) is))
      (fills (map its cells) m q (its was) x p.2 p.3 p.4 free)

  pub empties_row : (cells : List V) (m q : ℕ) (was now : V) (x : Item) → HasPlace (map its cells) m q
      → was ≡ get_or cells m was → its now ≡ set (its was) q None → held_at (map its cells) m q ≡ x ∷ []
      → HoldsMore (map its (set cells m now)) (map its cells) m q x
  empties_row cells m q was now x place at is held =
      let p = row_of cells m q was place at in
      subst (λ (l : List (List (Option Item))). HoldsMore l (map its cells) m q x)
      (sym (map-set its cells m now ∙ ap (λ (r : List (Option Item)). set (map its cells) m r) is))
      (empties (map its cells) m q (its was) x p.2 p.3 p.4 held)
