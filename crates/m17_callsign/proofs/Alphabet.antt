-- The forty letters and their indexes, by trying each.
use Rattle.std.proofs.Common.{ℕ, zero, suc, ◌≡◌, ◌≢◌, ◌+◌, ◌-◌, ◌<◌, ◌≤◌, ◌⊎◌, inl, inr, Bool, true, ◌&&◌, ◌||◌, eqb, leb, get_or, refl, ap, sym, ◌∙◌, subst, arith, eqb-true, ltb-true, ltb}
use Rattle.std.proofs.lemmas.List.{get_or_default}
use Rattle.std.proofs.lemmas.Bool.{cases_eq}
use Rattle.std.proofs.lemmas.Bool.Decides.{nat_tests}
use Rattle.m17_lists.proofs.Tests.{both_are_true}
use Rattle.m17_callsign.specs.Callsign.{alphabet, IsLetter, index_of}

-- the test passes at each number below n
abbrev passes_below : (ℕ → Bool) → ℕ → Bool
passes_below p zero = true
passes_below p (suc n) = p n && passes_below p n

passes_at : (p : ℕ → Bool) (n k : ℕ) → passes_below p n ≡ true → k < n → p k ≡ true
passes_at p zero k h lt = absurd (omega arith)
passes_at p (suc n) k h lt =
    let both = both_are_true (p n) (passes_below p n) h in
    elim (cases_eq k n) [ inl e ↦ subst (λ (i : ℕ). p i ≡ true) (sym e) both.0 | inr ne ↦ passes_at p n k both.1 (omega arith) ]

-- the letter at an index
unfoldable pub letter_of : ℕ → ℕ
letter_of i = get_or alphabet i 0

each_index : passes_below (λ i. eqb (index_of (letter_of i)) i) 40 ≡ true
unfolding alphabet index_of letter_of
each_index = refl

capitals : passes_below (λ k. eqb (letter_of (k + 1)) (k + 65)) 26 ≡ true
unfolding alphabet letter_of
capitals = refl

figures : passes_below (λ k. eqb (letter_of (k + 27)) (k + 48)) 10 ≡ true
unfolding alphabet letter_of
figures = refl

-- one of the letters, as a test
abbrev is_known : ℕ → Bool
is_known x = eqb x 32 || ((leb 65 x && leb x 90) || ((leb 48 x && leb x 57) || (eqb x 45 || (eqb x 47 || eqb x 46))))

all_known : passes_below (λ i. is_known (letter_of i)) 40 ≡ true
unfolding alphabet letter_of
all_known = refl

-- the index of the letter at an index
pub index_of-letter_of : (i : ℕ) → i < 40 → index_of (letter_of i) ≡ i
index_of-letter_of i lt = eqb-true _ _ (passes_at (λ i. eqb (index_of (letter_of i)) i) 40 i each_index lt)

-- each letter stands at an index
at_some_index : (x : ℕ) → IsLetter x → (i : ℕ) × (i < 40) × (letter_of i ≡ x)
unfolding alphabet IsLetter letter_of
at_some_index x h = (h.0, h.1, get_or_default alphabet h.0 0 x h.1 ∙ h.2)

-- the letter at an index is a letter
pub IsLetter-letter_of : (i : ℕ) → i < 40 → IsLetter (letter_of i)
unfolding alphabet IsLetter letter_of
IsLetter-letter_of i lt = (i, lt, get_or_default alphabet i (get_or alphabet i 0) 0 lt)

-- what a letter has: its index, and the letter at this index
pub letter_of-index_of : (x : ℕ) → IsLetter x → letter_of (index_of x) ≡ x
letter_of-index_of x h =
    let at = at_some_index x h in
    let e = index_of-letter_of at.0 at.1 in
    let same = at.2 in
    ap letter_of (ap index_of (sym same) ∙ e) ∙ same

pub index_of-letter-lt : (x : ℕ) → IsLetter x → index_of x < 40
index_of-letter-lt x h =
    let at = at_some_index x h in
    let e = ap index_of (sym at.2) ∙ index_of-letter_of at.0 at.1 in
    let lt = at.1 in
    omega arith

-- a letter is at an index where it is found
found : (i x : ℕ) → i < 40 → letter_of i ≡ x → IsLetter x × (index_of x ≡ i)
found i x lt e = (subst IsLetter e (IsLetter-letter_of i lt), ap index_of (sym e) ∙ index_of-letter_of i lt)

capital : (x : ℕ) → 65 ≤ x → x ≤ 90 → IsLetter x × (index_of x ≡ x - 65 + 1)
capital x low high =
    let e : letter_of (x - 65 + 1) ≡ x - 65 + 65 = eqb-true _ _ (passes_at (λ k. eqb (letter_of (k + 1)) (k + 65)) 26 (x - 65) capitals (omega arith)) in
    let same : x - 65 + 65 ≡ x = omega arith in
    found (x - 65 + 1) x (omega arith) (e ∙ same)

figure : (x : ℕ) → 48 ≤ x → x ≤ 57 → IsLetter x × (index_of x ≡ x - 48 + 27)
figure x low high =
    let e : letter_of (x - 48 + 27) ≡ x - 48 + 48 = eqb-true _ _ (passes_at (λ k. eqb (letter_of (k + 27)) (k + 48)) 10 (x - 48) figures (omega arith)) in
    let same : x - 48 + 48 ≡ x = omega arith in
    found (x - 48 + 27) x (omega arith) (e ∙ same)

-- a letter that stands at this place
stands_at : (i x : ℕ) → i < 40 → eqb (letter_of i) x ≡ true → (y : ℕ) → y ≡ x → IsLetter y × (index_of y ≡ i)
stands_at i x lt e y is = found i y lt (eqb-true _ _ e ∙ sym is)

space : (x : ℕ) → x ≡ 32 → IsLetter x × (index_of x ≡ 0)
unfolding alphabet letter_of
space = stands_at 0 32 (omega arith) refl

dash : (x : ℕ) → x ≡ 45 → IsLetter x × (index_of x ≡ 37)
unfolding alphabet letter_of
dash = stands_at 37 45 (omega arith) refl

slash : (x : ℕ) → x ≡ 47 → IsLetter x × (index_of x ≡ 38)
unfolding alphabet letter_of
slash = stands_at 38 47 (omega arith) refl

dot : (x : ℕ) → x ≡ 46 → IsLetter x × (index_of x ≡ 39)
unfolding alphabet letter_of
dot = stands_at 39 46 (omega arith) refl

pub IsLetter-capital : (x : ℕ) → 65 ≤ x → x ≤ 90 → IsLetter x
IsLetter-capital x low high = (capital x low high).0

pub index_of-capital : (x : ℕ) → 65 ≤ x → x ≤ 90 → index_of x ≡ x - 65 + 1
index_of-capital x low high = (capital x low high).1

pub IsLetter-figure : (x : ℕ) → 48 ≤ x → x ≤ 57 → IsLetter x
IsLetter-figure x low high = (figure x low high).0

pub index_of-figure : (x : ℕ) → 48 ≤ x → x ≤ 57 → index_of x ≡ x - 48 + 27
index_of-figure x low high = (figure x low high).1

pub IsLetter-sign : (x : ℕ) → (x ≡ 32) ⊎ (x ≡ 45) ⊎ (x ≡ 47) ⊎ (x ≡ 46) → IsLetter x
IsLetter-sign x (inl is) = (space x is).0
IsLetter-sign x (inr (inl is)) = (dash x is).0
IsLetter-sign x (inr (inr (inl is))) = (slash x is).0
IsLetter-sign x (inr (inr (inr is))) = (dot x is).0

pub index_of-space : (x : ℕ) → x ≡ 32 → index_of x ≡ 0
index_of-space x is = (space x is).1

pub index_of-dash : (x : ℕ) → x ≡ 45 → index_of x ≡ 37
index_of-dash x is = (dash x is).1

pub index_of-slash : (x : ℕ) → x ≡ 47 → index_of x ≡ 38
index_of-slash x is = (slash x is).1

pub index_of-dot : (x : ℕ) → x ≡ 46 → index_of x ≡ 39
index_of-dot x is = (dot x is).1

-- each letter is one of these
known : (x : ℕ) → IsLetter x → is_known x ≡ true
known x h =
    let at = at_some_index x h in
    subst (λ (y : ℕ). is_known y ≡ true) at.2 (passes_at (λ i. is_known (letter_of i)) 40 at.0 all_known at.1)

pub no_letter : (x : ℕ) → x ≢ 32 → (x < 65) ⊎ (90 < x) → (x < 48) ⊎ (57 < x) → x ≢ 45 → x ≢ 47 → x ≢ 46 → IsLetter x → ⊥
no_letter x space capital figure dash slash dot h =
    let k = known x h in
    grind (arith, nat_tests)

-- only the space has index 0
pub space_is : (x : ℕ) → IsLetter x → index_of x ≡ 0 → x ≡ 32
unfolding alphabet letter_of
space_is x letter none = sym (letter_of-index_of x letter) ∙ ap letter_of none

pub index_of-no_space : (x : ℕ) → IsLetter x → x ≢ 32 → 0 < index_of x
index_of-no_space x letter no-space = let only = space_is x letter in grind arith

-- two letters with one index are one
pub same_letter : (x y : ℕ) → IsLetter x → IsLetter y → index_of x ≡ index_of y → x ≡ y
same_letter x y one other same = sym (letter_of-index_of x one) ∙ ap letter_of same ∙ letter_of-index_of y other

all_ascii : passes_below (λ i. ltb (letter_of i) 128) 40 ≡ true
unfolding alphabet letter_of
all_ascii = refl

-- what the letter at an index has
pub IsLetter-at : (i : ℕ) → i < 40 → IsLetter (get_or alphabet i 0)
unfolding letter_of
IsLetter-at i lt = IsLetter-letter_of i lt

pub index_of-at : (i : ℕ) → i < 40 → index_of (get_or alphabet i 0) ≡ i
unfolding letter_of
index_of-at i lt = index_of-letter_of i lt

pub letter_at-index_of : (x : ℕ) → IsLetter x → get_or alphabet (index_of x) 0 ≡ x
unfolding letter_of
letter_at-index_of x h = letter_of-index_of x h

pub ascii-at : (i : ℕ) → i < 40 → get_or alphabet i 0 < 128
unfolding letter_of
ascii-at i lt = ltb-true _ _ (passes_at (λ k. ltb (letter_of k) 128) 40 i all_ascii lt)

-- what a byte says of being a letter, and of its index
pub ruleset letters = (IsLetter-capital, index_of-capital, IsLetter-figure, index_of-figure, IsLetter-sign, index_of-space, index_of-dash, index_of-slash, index_of-dot, no_letter, index_of-letter-lt)
