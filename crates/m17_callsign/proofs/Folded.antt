-- The sum over all letters as a fold from the last letter, and what a scan from the last letter has seen.
use Rattle.std.proofs.Common.{ℕ, zero, suc, ◌≡◌, ◌+◌, ◌-◌, ◌*◌, ◌^◌, ◌<◌, ◌≤◌, inl, inr, List, [], ◌∷◌, length, get_or, drop, Option, Some, None, refl, ap, sym, ◌∙◌, subst, arith, add-one, slice_index, mul_assoc, lit<}
use Rattle.std.specs.List.{sum_by, range_with_len, All}
use Rattle.std.proofs.lemmas.List.{drop_all, get_or_default}
use Rattle.std.proofs.lemmas.Nat.{mul-add-lt}
use Rattle.std.proofs.Math.Nat.{pow-suc, pow-succ', one-le-pow, pow-le-pow_right, mul-one}
use Rattle.std.proofs.lemmas.List.Sums.{sum_by-cons}
use Rattle.std.proofs.Math.Seq.{drop-cons}
use Rattle.std.proofs.lemmas.Bool.{cases_eq}
use Rattle.m17_callsign.specs.Callsign.{IsLetter, index_of, share_of, sum_of}
use Rattle.m17_callsign.proofs.Alphabet.{index_of-letter-lt}

-- from the last letter on: forty times what follows, and the letter's index
unfoldable pub folded : List ℕ → ℕ
folded [] = 0
folded (x ∷ xs) = folded xs * 40 + index_of x

pub folded-nil : folded [] ≡ 0
unfolding folded
folded-nil = refl

pub folded-cons : (x : ℕ) (xs : List ℕ) → folded (x ∷ xs) ≡ folded xs * 40 + index_of x
unfolding folded
folded-cons x xs = refl

pub folded-drop : (xs : List ℕ) (i : ℕ) → i < length xs → folded (drop i xs) ≡ folded (drop (i + 1) xs) * 40 + index_of (get_or xs i 0)
folded-drop xs i lt = rw (drop-cons xs i 0 lt, folded-cons, add-one) refl

-- a letter more in front makes each share of the others forty times as large
share-cons : (x : ℕ) (xs : List ℕ) (a : ℕ) → share_of (x ∷ xs) (a + 1) ≡ share_of xs a * 40
share-cons x xs a = rw (add-one, pow-suc) (sym (mul_assoc (index_of (slice_index xs a)) (40 ^ a) 40))

shares-cons : (x : ℕ) (xs : List ℕ) (a n : ℕ) → sum_by (share_of (x ∷ xs)) (range_with_len (a + 1) n) ≡ sum_by (share_of xs) (range_with_len a n) * 40
shares-cons x xs a zero = refl
shares-cons x xs a (suc n) =
    let first = sum_by-cons (share_of (x ∷ xs)) (a + 1) (range_with_len (a + 1 + 1) n) in
    let rest = shares-cons x xs (a + 1) n in
    let one = share-cons x xs a in
    let without = sum_by-cons (share_of xs) a (range_with_len (a + 1) n) in
    omega arith

pub folded-is-sum : (xs : List ℕ) → folded xs ≡ sum_of xs
folded-is-sum [] = folded-nil
folded-is-sum (x ∷ xs) =
    let first = sum_by-cons (share_of (x ∷ xs)) 0 (range_with_len 1 (length xs)) in
    let rest = shares-cons x xs 0 (length xs) in
    let fold = folded-cons x xs in
    let same = folded-is-sum xs in
    let one = mul-one (index_of x) in
    omega arith

-- what is known of the text once the places from i on are seen: what they add up to, or the first of them that is no letter
abbrev pub Seen : List ℕ → ℕ → ℕ → Option ℕ → Type 0
Seen xs i value None = (value ≡ folded (drop i xs)) × ((k : ℕ) → i ≤ k → k < length xs → IsLetter (get_or xs k 0))
Seen xs i value (Some p) = (i ≤ p) × (p < length xs) × (IsLetter (get_or xs p 0) → ⊥) × ((k : ℕ) → i ≤ k → k < p → IsLetter (get_or xs k 0))

pub record IsSeen (xs : List ℕ) (i value : ℕ) (unknown : Option ℕ) : Type 0 where
  pub bound : value < 40 ^ (length xs - i)
  pub seen : Seen xs i value unknown

pub seen_none : (xs : List ℕ) → IsSeen xs (length xs) 0 None
seen_none xs = record {
  bound = one-le-pow (length xs - length xs) 40 (omega arith);
  seen = (sym (ap folded (drop_all (length xs) xs (omega arith)) ∙ folded-nil), λ k low high. absurd (omega arith));
}

-- one more letter keeps the fold below the next power
power_step : (v m n index : ℕ) → n ≡ suc m → index < 40 → v < 40 ^ m → v * 40 + index < 40 ^ n
power_step v m n index is small bound = rw (is, pow-succ') (mul-add-lt v 40 index (40 ^ m) bound small)

power_more : (v m n : ℕ) → m ≤ n → v < 40 ^ m → v < 40 ^ n
power_more v m n le bound = let more = pow-le-pow_right {n = 40} (omega arith) le in omega arith

-- the place before i, and those from i on
IsLetter-more : (xs : List ℕ) (i end : ℕ) → IsLetter (get_or xs (i - 1) 0) → ((k : ℕ) → i ≤ k → k < end → IsLetter (get_or xs k 0)) → (k : ℕ) → i - 1 ≤ k → k < end → IsLetter (get_or xs k 0)
IsLetter-more xs i end letter rest k low high =
    elim (cases_eq k (i - 1)) [ inl e ↦ subst (λ (j : ℕ). IsLetter (get_or xs j 0)) (sym e) letter | inr ne ↦ rest k (omega arith) high ]

Seen-letter : (xs : List ℕ) (i v index : ℕ) (unknown : Option ℕ) → 0 < i → i ≤ length xs → IsLetter (get_or xs (i - 1) 0) → index ≡ index_of (get_or xs (i - 1) 0) → Seen xs i v unknown → Seen xs (i - 1) (v * 40 + index) unknown
Seen-letter xs i v index None low high letter is seen = (
  (let step = folded-drop xs (i - 1) (omega arith) in
      let same : i - 1 + 1 ≡ i = omega arith in
      let fold = ap (λ (j : ℕ). folded (drop j xs)) same in
      let value = seen.0 in
      omega arith),
  IsLetter-more xs i (length xs) letter seen.1,
)
Seen-letter xs i v index (Some p) low high letter is seen = (omega arith, seen.1, seen.2, IsLetter-more xs i p letter seen.3)

pub seen_letter : (xs : List ℕ) (i v index : ℕ) (unknown : Option ℕ) → 0 < i → i ≤ length xs → IsLetter (get_or xs (i - 1) 0) → index ≡ index_of (get_or xs (i - 1) 0) → IsSeen xs i v unknown → IsSeen xs (i - 1) (v * 40 + index) unknown
seen_letter xs i v index unknown low high letter is seen = record {
  bound = power_step v (length xs - i) (length xs - (i - 1)) index (omega arith) (subst (λ (k : ℕ). k < 40) (sym is) (index_of-letter-lt _ letter)) seen.bound;
  seen = Seen-letter xs i v index unknown low high letter is seen.seen;
}

pub seen_unknown : (xs : List ℕ) (i v : ℕ) (unknown : Option ℕ) → 0 < i → i ≤ length xs → (IsLetter (get_or xs (i - 1) 0) → ⊥) → IsSeen xs i v unknown → IsSeen xs (i - 1) v (Some (i - 1))
seen_unknown xs i v unknown low high letter seen = record {
  bound = power_more v (length xs - i) (length xs - (i - 1)) (omega arith) seen.bound;
  seen = (omega arith, omega arith, letter, λ k from to. absurd (omega arith));
}

at_start : (xs : List ℕ) (i v : ℕ) (unknown : Option ℕ) → i ≤ 0 → unknown ≡ None → IsSeen xs i v unknown → IsSeen xs 0 v None
at_start xs i v unknown low none seen =
    let first : i ≡ 0 = omega arith in
    subst (λ (found : Option ℕ). IsSeen xs 0 v found) none (subst (λ (j : ℕ). IsSeen xs j v unknown) first seen)

pub seen_sum : (xs : List ℕ) (i v : ℕ) (unknown : Option ℕ) → i ≤ 0 → unknown ≡ None → IsSeen xs i v unknown → v ≡ sum_of xs
seen_sum xs i v unknown low none seen = (at_start xs i v unknown low none seen).seen.0 ∙ folded-is-sum xs

pub seen_bound : (xs : List ℕ) (i v : ℕ) (unknown : Option ℕ) → i ≤ 0 → unknown ≡ None → IsSeen xs i v unknown → v < 40 ^ length xs
seen_bound xs i v unknown low none seen =
    let all : length xs - 0 ≡ length xs = omega arith in
    subst (λ (n : ℕ). v < 40 ^ n) all (at_start xs i v unknown low none seen).bound

pub seen_all : (xs : List ℕ) (i v : ℕ) (unknown : Option ℕ) → i ≤ 0 → unknown ≡ None → IsSeen xs i v unknown → All IsLetter xs
seen_all xs i v unknown low none seen k d lt =
    subst IsLetter (get_or_default xs k 0 d lt) ((at_start xs i v unknown low none seen).seen.1 k (omega arith) lt)

pub seen_fits : (xs : List ℕ) (i v : ℕ) (unknown : Option ℕ) → length xs ≤ 9 → IsSeen xs i v unknown → v < 2 ^ 48
seen_fits xs i v unknown short seen =
    let below = power_more v (length xs - i) 9 (omega arith) seen.bound in
    let last : 40 ^ 9 < 2 ^ 48 = lit< tt in
    omega arith
