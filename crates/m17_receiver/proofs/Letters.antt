-- Where the inbox of a module stands: letters stand in order.
use Rattle.std.proofs.Common.{◌≡◌, ◌↔◌, ◌==◌, ℕ, zero, suc, ◌+◌, ◌-◌, ◌<◌, ◌≤◌, Bool, true, false, cond, List, [], ◌∷◌, ◌++◌, length, filter, get_or, Option, None, Some, MatchOption, refl, ap, sym, ◌∙◌, inl, inr, arith}
use Rattle.std.specs.List.{range_with_len}
use Rattle.std.proofs.lemmas.Bool.{cases_lt, eq-eqb, ne_eqb, false≢true}
use Rattle.std.proofs.lemmas.Bool.Decides.{eqb_tells}
use Rattle.std.proofs.lemmas.List.{get_or_past}
use Rattle.std.proofs.lemmas.List.Elements.{filter-append, filter_passes, All-get_or}
use Rattle.m17_control.specs.declared.modules.Modules.{Modules}
use Rattle.m17_control.specs.Modules.{serves, letters_of, letters_before}
use Rattle.m17_control.specs.Forms.{IsModule}
use Rattle.m17_receiver.specs.Posting.{letter_at}

-- a range in two parts, with a number between
range_apart : (a j k n : ℕ) → n ≡ j + suc k → range_with_len a n ≡ range_with_len a j ++ (a + j) ∷ range_with_len (a + j + 1) k
range_apart a zero k n is =
    ap (range_with_len a) (let e : n ≡ suc k = omega (arith, is) in e)
    ∙ ap (λ b. b ∷ range_with_len (a + 1) k) (let e : a ≡ a + 0 = omega arith in e)
    ∙ ap (λ b. (a + 0) ∷ range_with_len b k) (let e : a + 1 ≡ a + 0 + 1 = omega arith in e)
range_apart a (suc j) k zero is = absurd (omega arith)
range_apart a (suc j) k (suc n) is =
    ap (λ l. a ∷ l) (range_apart (a + 1) j k n (omega (arith, is))
    ∙ ap (λ b. range_with_len (a + 1) j ++ b ∷ range_with_len (a + 1 + j + 1) k) (let e : a + 1 + j ≡ a + suc j = omega arith in e)
    ∙ ap (λ b. range_with_len (a + 1) j ++ (a + suc j) ∷ range_with_len b k) (let e : a + 1 + j + 1 ≡ a + suc j + 1 = omega arith in e))

-- all of these are below, and all above
abbrev AreBelow : ℕ → List ℕ → Type 0
AreBelow x [] = Unit {0}
AreBelow x (y ∷ ys) = (y < x) × AreBelow x ys

abbrev AreAbove : ℕ → List ℕ → Type 0
AreAbove x [] = Unit {0}
AreAbove x (y ∷ ys) = (x < y) × AreAbove x ys

below_by : (x a : ℕ) (ys : List ℕ) (b : Bool) → a < x → AreBelow x ys → AreBelow x (cond b (a ∷ ys) ys)
below_by x a ys true l rest = (l, rest)
below_by x a ys false l rest = rest

above_by : (x a : ℕ) (ys : List ℕ) (b : Bool) → x < a → AreAbove x ys → AreAbove x (cond b (a ∷ ys) ys)
above_by x a ys true l rest = (l, rest)
above_by x a ys false l rest = rest

all_below : (p : ℕ → Bool) (x a j : ℕ) → a + j ≤ x → AreBelow x (filter p (range_with_len a j))
all_below p x a zero l = tt
all_below p x a (suc j) l = below_by x a (filter p (range_with_len (a + 1) j)) (p a) (omega (arith, l)) (all_below p x (a + 1) j (omega (arith, l)))

all_above : (p : ℕ → Bool) (x a j : ℕ) → x < a → AreAbove x (filter p (range_with_len a j))
all_above p x a zero l = tt
all_above p x a (suc j) l = above_by x a (filter p (range_with_len (a + 1) j)) (p a) l (all_above p x (a + 1) j (omega (arith, l)))

not_above : (x : ℕ) (ys : List ℕ) (m : ℕ) → 0 < x → AreAbove x ys → get_or ys m 0 ≡ x → ⊥
not_above x [] m some above is = omega (arith, is, some)
not_above x (y ∷ ys) zero some above is = omega (arith, is, above.0)
not_above x (y ∷ ys) (suc m) some above is = not_above x ys m some above.1 is

-- it stands at one place alone
stands_at : (x : ℕ) (front rest : List ℕ) (m : ℕ) → 0 < x → AreBelow x front → AreAbove x rest → (get_or (front ++ x ∷ rest) m 0 ≡ x) ↔ (m ≡ length front)
stands_at x [] rest zero some below above = (λ _. refl, λ _. refl)
stands_at x [] rest (suc m) some below above = (λ is. absurd (not_above x rest m some above is), λ is. absurd (omega (arith, is)))
stands_at x (y ∷ front) rest zero some below above = (λ is. absurd (omega (arith, is, below.0)), λ is. absurd (omega (arith, is)))
stands_at x (y ∷ front) rest (suc m) some below above =
    let more = stands_at x front rest m some below.1 above in
    (λ is. (let e : m ≡ length front = more.0 is in omega (arith, e)), λ is. more.1 (omega (arith, is)))

tests_alike : (a b c d : ℕ) → (b ≡ a) ↔ (c ≡ d) → (a == b) ≡ (c == d)
tests_alike a b c d iff = elim (eqb_tells c d) [
  | inl same ↦ eq-eqb a b (sym (iff.1 same.1)) ∙ sym same.0
  | inr apart ↦ ne_eqb a b (λ e. apart.1 (iff.0 (sym e))) ∙ sym apart.0
]

filter_first : (p : ℕ → Bool) (x : ℕ) (xs : List ℕ) → p x ≡ true → filter p (x ∷ xs) ≡ x ∷ filter p xs
filter_first p x xs is = ap (λ b. cond b (x ∷ filter p xs) (filter p xs)) is

letters_apart : (modules : Modules) (letter : ℕ) → IsModule letter → serves modules letter ≡ true →
    letters_of modules ≡ letters_before modules letter ++ letter ∷ filter (serves modules) (range_with_len (65 + (letter - 65) + 1) (90 - letter))
letters_apart modules letter in_range served =
    let here : 65 + (letter - 65) ≡ letter = omega (arith, in_range.0) in
    ap (filter (serves modules)) (range_apart 65 (letter - 65) (90 - letter) 26 (omega (arith, in_range.0, in_range.1)))
    ∙ filter-append (serves modules) (range_with_len 65 (letter - 65)) ((65 + (letter - 65)) ∷ range_with_len (65 + (letter - 65) + 1) (90 - letter))
    ∙ ap (λ l. letters_before modules letter ++ l) (filter_first (serves modules) (65 + (letter - 65)) (range_with_len (65 + (letter - 65) + 1) (90 - letter)) (ap (serves modules) here ∙ served)
    ∙ ap (λ x. x ∷ filter (serves modules) (range_with_len (65 + (letter - 65) + 1) (90 - letter))) here)

pub served_at : (modules : Modules) (letter at : ℕ) → IsModule letter → serves modules letter ≡ true → at ≡ length (letters_before modules letter) →
    (m : ℕ) → (letter == letter_at modules m) ≡ (m == at)
served_at modules letter at in_range served is m =
    let some : 0 < letter = omega (arith, in_range.0) in
    let rest : List ℕ = filter (serves modules) (range_with_len (65 + (letter - 65) + 1) (90 - letter)) in
    let stands = stands_at letter (letters_before modules letter) rest m some
    (all_below (serves modules) letter 65 (letter - 65) (omega (arith, in_range.0)))
    (all_above (serves modules) letter (65 + (letter - 65) + 1) (90 - letter) (omega (arith, in_range.0))) in
    let same : letter_at modules m ≡ get_or (letters_before modules letter ++ letter ∷ rest) m 0 = ap (λ l. get_or l m 0) (letters_apart modules letter in_range served) in
    tests_alike letter (letter_at modules m) m at (λ e. stands.0 (sym same ∙ e) ∙ sym is, λ e. same ∙ stands.1 (e ∙ is))

pub unserved_at : (modules : Modules) (letter : ℕ) → IsModule letter → serves modules letter ≡ false → (m : ℕ) → (letter == letter_at modules m) ≡ false
unserved_at modules letter in_range served m = ne_eqb letter (letter_at modules m) (λ e. elim (cases_lt m (length (letters_of modules))) [
  | inl within ↦
      let passes : serves modules (get_or (letters_of modules) m 0) ≡ true = All-get_or (λ x. serves modules x ≡ true) (letters_of modules) m 0 within (filter_passes (serves modules) (range_with_len 65 26)) in
      false≢true (sym served ∙ ap (serves modules) e ∙ passes)
  | inr past ↦ (let none : letter_at modules m ≡ 0 = get_or_past (letters_of modules) m 0 past in omega (arith, none, e, in_range.0))
])

pub ranked_at : (modules : Modules) (letter : ℕ) (rank : Option ℕ) → IsModule letter →
    MatchOption rank (serves modules letter ≡ false) (λ at. (serves modules letter ≡ true) × (at ≡ length (letters_before modules letter))) →
    MatchOption rank ((m : ℕ) → (letter == letter_at modules m) ≡ false) (λ at. (m : ℕ) → (letter == letter_at modules m) ≡ (m == at))
ranked_at modules letter None in_range is = unserved_at modules letter in_range is
ranked_at modules letter (Some at) in_range is = served_at modules letter at in_range is.0 is.1
