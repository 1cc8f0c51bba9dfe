-- How many letters of a set stand before one: the bits below its bit.
use Rattle.std.proofs.Common.{◌≡◌, ℕ, zero, suc, ◌+◌, ◌-◌, ◌*◌, ◌/◌, ◌%◌, ◌^◌, ◌<◌, ◌≤◌, Bool, cond, ◌==◌, List, [], ◌∷◌, length, filter, bit_and, refl, ap, sym, ◌∙◌, arith}
use Rattle.std.specs.Int.{bit_at}
use Rattle.std.specs.Int.RustNames.{count_ones}
use Rattle.std.specs.List.{range_with_len}
use Rattle.std.proofs.lemmas.List.{length-append}
use Rattle.std.proofs.lemmas.List.Elements.{filter-append}
use Rattle.std.proofs.lemmas.Nat.{mod-pow-add, ones_cat, mod_below, pow_pos, and_mask, one_shl}
use Rattle.std.proofs.lemmas.Nat.Bits.{bit_at-lt}
use Rattle.m17_lists.proofs.Ranges.{range_ends_in_its_last}
use Rattle.m17_control.specs.Modules.{serves, letters_before}
use Rattle.m17_control.specs.declared.modules.Modules.{Modules}
use Rattle.m17_control.proofs.ModuleSets.{serves_is}

one_counts : (p : ℕ → Bool) (x b : ℕ) → p x ≡ (b == 1) → b < 2 → length (filter p (x ∷ [])) ≡ b
one_counts p x zero is low = ap (λ (u : Bool). length (cond u (x ∷ []) [])) is
one_counts p x (suc zero) is low = ap (λ (u : Bool). length (cond u (x ∷ []) [])) is
one_counts p x (suc (suc b)) is low = absurd (omega arith)

letters_more : (m : Modules) (k : ℕ) → k < 26 → length (filter (serves m) (range_with_len 65 (suc k))) ≡ length (filter (serves m) (range_with_len 65 k)) + bit_at m.0 k
letters_more m k low =
    let here : 65 + k - 65 ≡ k = omega arith in
    ap (λ (xs : List ℕ). length (filter (serves m) xs)) (range_ends_in_its_last 65 k)
    ∙ ap (λ (xs : List ℕ). length xs) (filter-append (serves m) (range_with_len 65 k) ((65 + k) ∷ []))
    ∙ length-append (filter (serves m) (range_with_len 65 k)) (filter (serves m) ((65 + k) ∷ []))
    ∙ ap (λ (n : ℕ). length (filter (serves m) (range_with_len 65 k)) + n)
    (one_counts (serves m) (65 + k) (bit_at m.0 k)
    (serves_is m (65 + k) (omega arith) (omega (arith, low)) ∙ ap (λ (i : ℕ). bit_at m.0 i == 1) here) (bit_at-lt m.0 k))

one_bit : (b : ℕ) → b < 2 → count_ones b ≡ b
unfolding count_ones
one_bit zero low = refl
one_bit (suc zero) low = refl
one_bit (suc (suc b)) low = absurd (omega arith)

ones_more : (n k : ℕ) → count_ones (n % 2 ^ suc k) ≡ count_ones (n % 2 ^ k) + bit_at n k
ones_more n k =
    let halves : n % 2 ^ (1 + k) ≡ (n / 2 ^ k % 2 ^ 1) * 2 ^ k + n % 2 ^ k = mod-pow-add n 1 k in
    let one : 1 + k ≡ suc k = omega arith in
    let ones = ones_cat k (bit_at n k) (n % 2 ^ k) (mod_below n (2 ^ k) (pow_pos k)) in
    let bit = one_bit (bit_at n k) (bit_at-lt n k) in
    ap (λ i. count_ones (n % 2 ^ i)) (sym one) ∙ ap count_ones halves ∙ omega (arith, ones, bit)

pub ones_below : (m : Modules) (k : ℕ) → k ≤ 26 → count_ones (m.0 % 2 ^ k) ≡ length (filter (serves m) (range_with_len 65 k))
unfolding count_ones
ones_below m zero low = (let e : m.0 % 2 ^ 0 ≡ 0 = omega arith in ap count_ones e)
ones_below m (suc k) low =
    omega (arith, ones_more m.0 k, ones_below m k (omega (arith, low)), letters_more m k (omega (arith, low)))

pub ranks : (m : Modules) (letter : ℕ) → 65 ≤ letter → letter ≤ 90
    → count_ones (bit_and m.0 (1 * 2 ^ (letter - 65) % 2 ^ 32 - 1)) ≡ length (letters_before m letter)
ranks m letter low high =
    ap (λ i. count_ones (bit_and m.0 (i - 1))) (one_shl (letter - 65) 32 (omega (arith, low, high)))
    ∙ ap count_ones (and_mask m.0 (letter - 65))
    ∙ ones_below m (letter - 65) (omega (arith, low, high))
