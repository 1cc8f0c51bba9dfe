-- Lists: orders and their parts, first parts of lists, and places in them.
use Rattle.std.proofs.Common.{◌≡◌, ◌≢◌, ◌==◌, ℕ, zero, suc, ◌+◌, ◌<◌, ◌≤◌, ◌⊎◌, inl, inr, ⊎_elim, Bool, true, false, cond, nat_le, List, [], ◌∷◌, ◌++◌, length, subst, sym, refl, ap, ◌∙◌, append_assoc, append-nil, length-append, eq-eqb, ne_eqb, leb-true, leb-false, arith}
use mathlib.Core.Option.{some, some-injective, some-ne-none}
use lib.ListN.{get_elem?}
use Rattle.m17_lane.specs.Orders.{items_of, part, EachLog, HasLog, EachKnown, Apart}
use Rattle.m17_lane.specs.Rule.{IsPrefix, longer, EachFrom}

module _ {A : Type 0} where
  -- a place in a longer list is an old one, or the last
  pub at_end : (l : List A) (a b : A) (j : ℕ) → get_elem? (l ++ a ∷ []) j ≡ some b → (get_elem? l j ≡ some b) ⊎ ((j ≡ length l) × (a ≡ b))
  at_end [] a b zero e = inr (refl, some-injective a b e)
  at_end [] a b (suc j) e = absurd (some-ne-none b (sym e))
  at_end (x ∷ xs) a b zero e = inl e
  at_end (x ∷ xs) a b (suc j) e = ⊎_elim (λ h. inl h) (λ (h : (j ≡ length xs) × (a ≡ b)). inr (ap suc h.0, h.1)) (at_end xs a b j e)

  pub below : (l : List A) (i : ℕ) (a : A) → get_elem? l i ≡ some a → i < length l
  below [] i a e = absurd (some-ne-none a (sym e))
  below (x ∷ xs) zero a e = omega arith
  below (x ∷ xs) (suc i) a e = let h = below xs i a e in omega arith

  pub prefix_self : (xs : List A) → IsPrefix xs xs
  prefix_self xs = ([], sym (append-nil xs))

  pub prefix_more : (xs ys zs : List A) → IsPrefix xs ys → IsPrefix xs (ys ++ zs)
  prefix_more xs ys zs h = (h.0 ++ zs, ap (λ l. l ++ zs) h.1 ∙ append_assoc xs h.0 zs)

  no_rest : (xs rest : List A) → length rest ≤ 0 → xs ≡ xs ++ rest
  no_rest xs [] h = sym (append-nil xs)
  no_rest xs (y ∷ ys) h = absurd (omega arith)

  pub prefix_whole : (xs ys : List A) → IsPrefix xs ys → length ys ≤ length xs → xs ≡ ys
  prefix_whole xs ys h le =
      let e : length ys ≡ length xs + length h.0 = ap length h.1 ∙ length-append xs h.0 in
      no_rest xs h.0 (omega arith) ∙ sym h.1

  pub no_more : (xs ys rest : List A) → ys ≡ xs ++ rest → ys ≡ [] → xs ≡ []
  no_more [] ys rest e is = refl
  no_more (x ∷ xs) ys rest e is = absurd (let h : length (x ∷ (xs ++ rest)) ≡ 0 = ap length (sym e ∙ is) in omega arith)

  pub longer_begins : (a b o : List A) → IsPrefix a o → IsPrefix b o → IsPrefix (longer a b) o
  longer_begins a b o ha hb = elim (nat_le (length a) (length b)) as (λ c. IsPrefix (cond c b a) o) [ true ↦ hb | false ↦ ha ]

  left_of_two : (a b o : List A) (c : Bool) → nat_le (length a) (length b) ≡ c → IsPrefix b o → a ≡ o → cond c b a ≡ o
  left_of_two a b o true is hb e =
      let le = leb-true (length a) (length b) is in
      let same : length a ≡ length o = ap length e in prefix_whole b o hb (omega arith)
  left_of_two a b o false is hb e = e

  pub longer_left : (a b o : List A) → IsPrefix b o → a ≡ o → longer a b ≡ o
  longer_left a b o hb e = left_of_two a b o (nat_le (length a) (length b)) refl hb e

  right_of_two : (a b o : List A) (c : Bool) → nat_le (length a) (length b) ≡ c → IsPrefix a o → b ≡ o → cond c b a ≡ o
  right_of_two a b o true is ha e = e
  right_of_two a b o false is ha e =
      let lt = leb-false (length a) (length b) is in
      let same : length b ≡ length o = ap length e in prefix_whole a o ha (omega arith)

  pub longer_right : (a b o : List A) → IsPrefix a o → b ≡ o → longer a b ≡ o
  longer_right a b o ha e = right_of_two a b o (nat_le (length a) (length b)) refl ha e

module _ {T : Type 0} where
  pub items_snoc : (es : List (ℕ × T)) (p : ℕ) (x : T) → items_of (es ++ (p, x) ∷ []) ≡ items_of es ++ x ∷ []
  items_snoc [] p x = refl
  items_snoc (e ∷ es) p x = ap (λ l. e.1 ∷ l) (items_snoc es p x)

  pub part_snoc_same : (es : List (ℕ × T)) (p : ℕ) (x : T) → part p (es ++ (p, x) ∷ []) ≡ part p es ++ x ∷ []
  part_snoc_same [] p x = ap (λ b. cond b (x ∷ []) []) (eq-eqb p p refl)
  part_snoc_same (e ∷ es) p x =
      let ih = part_snoc_same es p x in
      elim (e.0 == p) as (λ b. cond b (e.1 ∷ part p (es ++ (p, x) ∷ [])) (part p (es ++ (p, x) ∷ [])) ≡ cond b (e.1 ∷ part p es) (part p es) ++ x ∷ [])
      [ true ↦ ap (λ l. e.1 ∷ l) ih | false ↦ ih ]

  pub part_snoc_other : (es : List (ℕ × T)) (p q : ℕ) (x : T) → p ≢ q → part q (es ++ (p, x) ∷ []) ≡ part q es
  part_snoc_other [] p q x ne = ap (λ b. cond b (x ∷ []) []) (ne_eqb p q ne)
  part_snoc_other (e ∷ es) p q x ne =
      let ih = part_snoc_other es p q x ne in
      elim (e.0 == q) as (λ b. cond b (e.1 ∷ part q (es ++ (p, x) ∷ [])) (part q (es ++ (p, x) ∷ [])) ≡ cond b (e.1 ∷ part q es) (part q es))
      [ true ↦ ap (λ l. e.1 ∷ l) ih | false ↦ ih ]

  pub from_snoc : (n : ℕ) (es : List (ℕ × T)) (p : ℕ) (x : T) → EachFrom n es → p < n → EachFrom n (es ++ (p, x) ∷ [])
  from_snoc n [] p x h lt = (lt, tt)
  from_snoc n (e ∷ es) p x h lt = (h.0, from_snoc n es p x h.1 lt)

  pub from_wider : (n m : ℕ) (es : List (ℕ × T)) → EachFrom n es → n ≤ m → EachFrom m es
  from_wider n m [] h le = tt
  from_wider n m (e ∷ es) h le = (let lt = h.0 in omega arith, from_wider n m es h.1 le)

  pub part_above : (n p : ℕ) (es : List (ℕ × T)) → EachFrom n es → n ≤ p → part p es ≡ []
  part_above n p [] h le = refl
  part_above n p (e ∷ es) h le =
      let lt = h.0 in let ne : e.0 ≢ p = λ is. omega arith in
      ap (λ b. cond b (e.1 ∷ part p es) (part p es)) (ne_eqb e.0 p ne) ∙ part_above n p es h.1 le

  pub part_all : (p : ℕ) (es : List (ℕ × T)) → EachKnown ((p, []) ∷ []) es → part p es ≡ items_of es
  part_all p [] h = refl
  part_all p (e ∷ es) h =
      let is : e.0 ≡ p = ⊎_elim (λ (x : p ≡ e.0). sym x) (λ (x : ⊥). absurd x) h.0 in
      ap (λ b. cond b (e.1 ∷ part p es) (part p es)) (eq-eqb e.0 p is) ∙ ap (λ l. e.1 ∷ l) (part_all p es h.1)

  pub part_only : (es : List (ℕ × T)) → EachFrom 1 es → part 0 es ≡ items_of es
  part_only [] h = refl
  part_only (e ∷ es) h =
      let lt = h.0 in let is : e.0 ≡ 0 = omega arith in
      ap (λ b. cond b (e.1 ∷ part 0 es) (part 0 es)) (eq-eqb e.0 0 is) ∙ ap (λ l. e.1 ∷ l) (part_only es h.1)

  pub logs_map : (F G : ℕ → List T → Type 0) (ls : List (ℕ × List T)) → ((p : ℕ) (l : List T) → F p l → G p l) → EachLog F ls → EachLog G ls
  logs_map F G [] f h = tt
  logs_map F G (l ∷ ls) f h = (f l.0 l.1 h.0, logs_map F G ls f h.1)

  pub logs_append : (F : ℕ → List T → Type 0) (ls ms : List (ℕ × List T)) → EachLog F ls → EachLog F ms → EachLog F (ls ++ ms)
  logs_append F [] ms h k = k
  logs_append F (a ∷ ls) ms h k = (h.0, logs_append F ls ms h.1 k)

  pub has_append : (p : ℕ) (ls ms : List (ℕ × List T)) → HasLog p ls ⊎ HasLog p ms → HasLog p (ls ++ ms)
  has_append p [] ms h = ⊎_elim (λ (x : ⊥). absurd x) (λ x. x) h
  has_append p (a ∷ ls) ms h = ⊎_elim
      (λ (x : (a.0 ≡ p) ⊎ HasLog p ls). ⊎_elim (λ y. inl y) (λ y. inr (has_append p ls ms (inl y))) x)
      (λ x. inr (has_append p ls ms (inr x))) h

  pub has_either : (p : ℕ) (ls ms : List (ℕ × List T)) → HasLog p (ls ++ ms) → HasLog p ls ⊎ HasLog p ms
  has_either p [] ms h = inr h
  has_either p (a ∷ ls) ms h = ⊎_elim (λ (x : a.0 ≡ p). inl (inl x))
      (λ x. ⊎_elim (λ y. inl (inr y)) (λ y. inr y) (has_either p ls ms x)) h

  pub apart_append : (ls ms : List (ℕ × List T)) → Apart ls → Apart ms → ((p : ℕ) → HasLog p ls → HasLog p ms → ⊥) → Apart (ls ++ ms)
  apart_append [] ms h k clash = k
  apart_append (a ∷ ls) ms h k clash = (
    λ x. ⊎_elim (λ y. h.0 y) (λ y. clash a.0 (inl refl) y) (has_either a.0 ls ms x),
    apart_append ls ms h.1 k (λ p x y. clash p (inr x) y),
  )

  -- what holds of each list holds of the list of producer p
  pub log_at : (F : ℕ → List T → Type 0) (p : ℕ) (ls : List (ℕ × List T)) → EachLog F ls → HasLog p ls → (l : List T) × F p l
  log_at F p [] h has = absurd has
  log_at F p (l ∷ ls) h has = ⊎_elim (λ (e : l.0 ≡ p). (l.1, subst (λ q. F q l.1) e h.0)) (λ x. log_at F p ls h.1 x) has

  pub all_known : (n : ℕ) (ls : List (ℕ × List T)) (es : List (ℕ × T)) → ((p : ℕ) → p < n → HasLog p ls) → EachFrom n es → EachKnown ls es
  all_known n ls [] has h = tt
  all_known n ls (e ∷ es) has h = (has e.0 h.0, all_known n ls es has h.1)
