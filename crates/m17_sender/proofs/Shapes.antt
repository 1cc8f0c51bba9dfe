-- Rows that are as long as they were, and the places that a shape has.
use Rattle.std.proofs.Common.{◌≡◌, ℕ, ◌<◌, List, [], ◌∷◌, map, length, get_or, refl, sym, ap, ◌∙◌, arith}
use Rattle.std.specs.List.{All}
use Rattle.std.proofs.lemmas.Option.{get_or_from_slice_get}
use Rattle.m17_sender.specs.Cells.{HasPlace}
use Rattle.std.proofs.Common.{vec_len}
use Rattle.std.proofs.lemmas.List.{length-map}
use Rattle.std.proofs.Math.ListN.{get_or-map}
use Rattle.m17_lists.proofs.Places.{each_place_has_one, mapped_stands_there}
use Rattle.m17_sender.specs.declared.sender.Sender.{Sender}
use Rattle.m17_sender.specs.Places.{cells_of, queues_of}
use Rattle.m17_sender.specs.Ready.{IsShaped}

module _ {A : Type 0} where
  abbrev pub AreLong : ℕ → List (List A) → Type 0
  AreLong n rows = All (λ row. length row ≡ n) rows

  pub same_count : (xs ys : List (List A)) → map length ys ≡ map length xs → length ys ≡ length xs
  same_count xs ys e = sym (length-map ys length) ∙ ap length e ∙ length-map xs length

  pub same_long : (n : ℕ) (xs ys : List (List A)) → map length ys ≡ map length xs → AreLong n xs → AreLong n ys
  same_long n xs ys e long = λ k d lt.
      let many : length ys ≡ length xs = same_count xs ys e in
      let within : k < length xs = omega arith in
      sym (get_or-map length ys k d) ∙ ap (λ (l : List ℕ). get_or l k (length d)) e ∙ get_or-map length xs k d ∙ long k d within

  pub place_in : (rows : List (List A)) (n m q : ℕ) → AreLong n rows → m < length rows → q < n → HasPlace rows m q
  place_in rows n m q long lt within =
      let row = each_place_has_one rows m lt in
      let same : get_or rows m row.0 ≡ row.0 = get_or_from_slice_get rows m row.0 row.0 row.1 in
      let is : length row.0 ≡ n = sym (ap length same) ∙ long m row.0 lt in
      record { row = row.0; is_row = row.1; within = omega arith }

-- the lengths of rows that have more than their items
module _ {V A : Type 0} (its : V → List A) (len : V → ℕ) (same : (v : V) → len v ≡ length (its v)) where
  pub len_at : (n : ℕ) (vs : List V) (m : ℕ) → AreLong n (map its vs) → m < length vs → get_or (map len vs) m 0 ≡ n
  len_at n vs m long lt =
      let v = each_place_has_one vs m lt in
      let many : length (map its vs) ≡ length vs = length-map vs its in
      let within : m < length (map its vs) = omega arith in
      let row = get_or_from_slice_get (map its vs) m (its v.0) (its v.0) (mapped_stands_there its vs m v.0 v.1) in
      get_or_from_slice_get (map len vs) m (len v.0) 0 (mapped_stands_there len vs m v.0 v.1)
      ∙ same v.0 ∙ sym (ap length row) ∙ long m (its v.0) within

  pub lens_are : (vs : List V) → map len vs ≡ map length (map its vs)
  lens_are [] = refl
  lens_are (v ∷ vs) = let first = same v in let rest = lens_are vs in λ i. first i ∷ rest i

module _ {M : Type 0} (s : Sender M) where
  pub held_place : (m q : ℕ) → IsShaped s → m < length s.queues.items → q < s.places → HasPlace (cells_of s) m q
  held_place m q h lt within =
      let many : length (cells_of s) ≡ length s.held.items = length-map s.held.items (λ row. row.items) in
      let less : m < length (cells_of s) = omega (arith, h.modules) in
      place_in (cells_of s) s.places m q h.cells less within

  pub queue_place : (m q : ℕ) → IsShaped s → m < length s.queues.items → q < s.places → HasPlace (queues_of s) m q
  queue_place m q h lt within =
      let many : length (queues_of s) ≡ length s.queues.items = length-map s.queues.items (λ row. row.items) in
      let less : m < length (queues_of s) = omega arith in
      place_in (queues_of s) s.places m q h.queues less within

  pub queue_at : (m q : ℕ) → IsShaped s → m < length s.queues.items → q < s.places
      → q < get_or (map (λ ends. vec_len ends) s.queues.items) m 0
  queue_at m q h lt within =
      let is = len_at (λ row. row.items) (λ ends. vec_len ends) (λ v. v.ok.0) s.places s.queues.items m h.queues lt in
      omega (arith, is, within)
