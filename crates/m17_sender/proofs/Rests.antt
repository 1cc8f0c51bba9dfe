-- What is held back still waits where nothing was said.
use Rattle.std.proofs.Common.{◌≡◌, ◌⊎◌, inl, inr, ℕ, suc, ◌<◌, ◌+◌, false, List, [], ◌∷◌, length, get_or, Option, None, Some, refl, sym, ap, subst, ◌∙◌, arith}
use Rattle.std.specs.List.{slice_get}
use Rattle.std.proofs.lemmas.Bool.Decides.{leb_tells}
use Rattle.std.proofs.lemmas.Option.{get_or_from_slice_get, slice_get_within}
use Rattle.std.proofs.lemmas.List.{length-map}
use Rattle.m17_control.specs.declared.item.Item.{Item}
use Rattle.m17_sender.specs.declared.sender.Sender.{Sender}
use Rattle.m17_sender.specs.declared.queue.Tried.{Tried}
use Rattle.m17_sender.specs.declared.queue.Tried.TheVariants.{Did, Empty, Waiting}
use Rattle.m17_sender.specs.Places.{cells_of, held_at, held_in, in_row}
use Rattle.m17_sender.specs.Ready.{IsShaped}
use Rattle.m17_sender.specs.SoFar.{is_did, IsHeldBack, IsIdle, OnVain, RestsAt}

pub in_vain : (t : Tried) (P : Type 0) → is_did t ≡ false → OnVain t P → P
in_vain Did P e h = absurd (let bad : ⊥ = cc in bad)
in_vain Waiting P e h = h
in_vain Empty P e h = h

last_or_less : (q n : ℕ) → q < n + 1 → (q < n) ⊎ (n ≡ q)
last_or_less q n lt = elim (leb_tells (suc q) n) [ inl is ↦ inl is.1 | inr isnt ↦ inr (omega (arith, isnt.1)) ]

module _ {M : Type 0} where
  pub rests_on : (s t : Sender M) (before after : List ℕ) (m q : ℕ) → IsIdle s t before after
      → RestsAt s before m q → RestsAt t after m q
  rests_on s t before after m q idle r = λ item e.
      subst (λ (n : List ℕ). IsHeldBack n item) (sym idle.noted)
      (r item (ap (λ (cells : List (List (Option Item))). held_at cells m q) (sym idle.cells) ∙ e))

  pub idle_on : (a b c : Sender M) (first next last : List ℕ) → IsIdle a b first next → IsIdle b c next last
      → IsIdle a c first last
  idle_on a b c first next last f h = record { cells = h.cells ∙ f.cells; noted = h.noted ∙ f.noted }

  -- one place more of a row
  pub row_rests : (a b c : Sender M) (first next last : List ℕ) (m n : ℕ)
      → IsIdle a b first next × ((q : ℕ) → q < n → RestsAt b next m q)
      → IsIdle b c next last × RestsAt c last m n
      → IsIdle a c first last × ((q : ℕ) → q < n + 1 → RestsAt c last m q)
  row_rests a b c first next last m n h one = (
    idle_on a b c first next last h.0 one.0,
    λ q lt. elim (last_or_less q n lt) [
      | inl less ↦ rests_on b c next last m q one.0 (h.1 q less)
      | inr is ↦ subst (λ (k : ℕ). RestsAt c last m k) is one.1
    ],
  )

  -- one row more
  pub rows_rest : (b c : Sender M) (next last : List ℕ) (n p : ℕ)
      → ((m : ℕ) → m < n → (q : ℕ) → q < p → RestsAt b next m q)
      → IsIdle b c next last × ((q : ℕ) → q < p → RestsAt c last n q)
      → (m : ℕ) → m < n + 1 → (q : ℕ) → q < p → RestsAt c last m q
  rows_rest b c next last n p h one m lt q within = elim (last_or_less m n lt) [
    | inl less ↦ rests_on b c next last m q one.0 (h m less q within)
    | inr is ↦ subst (λ (k : ℕ). RestsAt c last k q) is (one.1 q within)
  ]

-- where an item is held back there is a place
held_cell : (row : List (Option Item)) (q : ℕ) (x : Item) (c : Option (Option Item)) → slice_get row q ≡ c
    → held_in c ≡ x ∷ [] → q < length row
held_cell row q x None is e = absurd (let bad : ⊥ = cc in bad)
held_cell row q x (Some cell) is e = slice_get_within row q cell is

held_row : (rows : List (List (Option Item))) (m q : ℕ) (x : Item) (r : Option (List (Option Item))) → slice_get rows m ≡ r
    → held_in (in_row r q) ≡ x ∷ []
    → (row : List (Option Item)) × (slice_get rows m ≡ Some row) × (q < length row)
held_row rows m q x None is e = absurd (let bad : ⊥ = cc in bad)
held_row rows m q x (Some row) is e = (row, is, held_cell row q x (slice_get row q) refl e)

module _ {M : Type 0} where
  pub held_within : (s : Sender M) (m q : ℕ) (x : Item) → IsShaped s → held_at (cells_of s) m q ≡ x ∷ []
      → (m < length s.queues.items) × (q < s.places)
  held_within s m q x h e =
      let row = held_row (cells_of s) m q x (slice_get (cells_of s) m) refl e in
      let lt : m < length (cells_of s) = slice_get_within (cells_of s) m row.0 row.1 in
      let many : length (cells_of s) ≡ length s.held.items = length-map s.held.items (λ row. row.items) in
      let same : get_or (cells_of s) m row.0 ≡ row.0 = get_or_from_slice_get (cells_of s) m row.0 row.0 row.1 in
      let long : length row.0 ≡ s.places = sym (ap (λ (l : List (Option Item)). length l) same) ∙ h.cells m row.0 lt in
      (omega (arith, lt, many, h.modules), omega (arith, long, row.2))

  pub all_rest : (s : Sender M) (noted : List ℕ) (n p : ℕ) → IsShaped s → n ≡ length s.queues.items → p ≡ s.places
      → ((m : ℕ) → m < n → (q : ℕ) → q < p → RestsAt s noted m q) → (m q : ℕ) → RestsAt s noted m q
  all_rest s noted n p h rows places r m q x e =
      let within = held_within s m q x h e in
      let row : m < n = omega (arith, within.0, rows) in
      let place : q < p = omega (arith, within.1, places) in r m row q place x e
