-- Sets of modules by their bits.
use Rattle.std.proofs.Common.{◌≡◌, ◌≢◌, ℕ, ◌+◌, ◌-◌, ◌*◌, ◌%◌, ◌^◌, ◌<◌, ◌≤◌, Bool, true, false, ◌&&◌, ◌==◌, nat_le, bit_or, arith, sym, ap, ◌∙◌, ◌⊎◌, inl, inr, MatchBool, length, filter, take, get_or, cond}
use Rattle.std.proofs.lemmas.Bool.{cases_lt}
use Rattle.std.specs.Char.{IsAsciiUppercase, IsNotAsciiUppercase}
use Rattle.std.specs.List.{range_with_len}
use Rattle.std.proofs.lemmas.Bool.{false≢true}
use Rattle.std.proofs.lemmas.List.Filters.{length-filter_more}
use Rattle.std.proofs.lemmas.List.FromFn.{get_or-range_with_len, length-range_with_len}
use Rattle.std.specs.Int.{w32, bit_at}
use Rattle.std.proofs.lemmas.Bool.Decides.{nat_tests}
use Rattle.std.proofs.lemmas.Nat.Bits.{bit_at-zero, bit_at_set_same, bit_at_set_other}
use Rattle.m17_control.specs.Modules.{serves}
use Rattle.m17_control.specs.declared.modules.Modules.{Modules}

within : (letter : ℕ) → 65 ≤ letter → letter ≤ 90 → nat_le 65 letter && nat_le letter 90 ≡ true
within letter low high = grind (arith, nat_tests)

outside : (letter : ℕ) (b : Bool) → ((65 ≤ letter) × (letter ≤ 90) → ⊥) → nat_le 65 letter && nat_le letter 90 && b ≡ false
outside letter b h = grind (arith, nat_tests)

cases_within : (letter : ℕ) → ((65 ≤ letter) × (letter ≤ 90)) ⊎ ((65 ≤ letter) × (letter ≤ 90) → ⊥)
cases_within letter = elim (cases_lt letter 65) [
  | inl low ↦ inr (λ h. omega arith)
  | inr high ↦ elim (cases_lt 90 letter) [ inl above ↦ inr (λ h. omega arith) | inr in_range ↦ inl (high, in_range) ]
]

pub serves_is : (m : Modules) (letter : ℕ) → 65 ≤ letter → letter ≤ 90 → serves m letter ≡ (bit_at m.0 (letter - 65) == 1)
unfolding serves
serves_is m letter low high = ap (λ x. x && bit_at m.0 (letter - 65) == 1) (within letter low high)

pub serves_outside : (m : Modules) (letter : ℕ) → ((65 ≤ letter) × (letter ≤ 90) → ⊥) → serves m letter ≡ false
unfolding serves
serves_outside m letter h = outside letter (bit_at m.0 (letter - 65) == 1) h

pub serves_within : (m : Modules) (letter : ℕ) → serves m letter ≡ true → (65 ≤ letter) × (letter ≤ 90)
unfolding serves
serves_within m letter h = (grind (arith, nat_tests), grind (arith, nat_tests))

pub none_served : (m : Modules) (letter : ℕ) → m.0 ≡ 0 → serves m letter ≡ false
unfolding serves
none_served m letter e =
    let zero : bit_at m.0 (letter - 65) ≡ 0 = ap (λ x. bit_at x (letter - 65)) e ∙ bit_at-zero (letter - 65) in
    grind (arith, nat_tests)

pub put_it : (m n : Modules) (letter : ℕ) → 65 ≤ letter → letter ≤ 90 → n.0 ≡ bit_or m.0 (1 * 2 ^ (letter - 65) % 2 ^ 32) → serves n letter ≡ true
put_it m n letter low high e =
    let bit : bit_at n.0 (letter - 65) ≡ 1 = ap (λ x. bit_at x (letter - 65)) e ∙ bit_at_set_same w32 m.0 (letter - 65) (omega arith) in
    serves_is n letter low high ∙ ap (λ x. x == 1) bit

pub put_other : (m n : Modules) (letter other : ℕ) → 65 ≤ letter → letter ≤ 90 → n.0 ≡ bit_or m.0 (1 * 2 ^ (letter - 65) % 2 ^ 32) → other ≢ letter → serves n other ≡ serves m other
put_other m n letter other low high e ne = elim (cases_within other) [
  | inl inside ↦
      (let apart : other - 65 ≢ letter - 65 = omega arith in
      serves_is n other inside.0 inside.1
      ∙ ap (λ x. x == 1) (ap (λ x. bit_at x (other - 65)) e ∙ bit_at_set_other w32 m.0 (letter - 65) (omega arith) (other - 65) apart)
      ∙ sym (serves_is m other inside.0 inside.1))
  | inr out ↦ serves_outside n other out ∙ sym (serves_outside m other out)
]

pub is_upper : (r : Bool) (c : ℕ) → r ≡ true → MatchBool r (IsAsciiUppercase c) (IsNotAsciiUppercase c) → (65 ≤ c) × (c ≤ 90)
is_upper true c e h = h
is_upper false c e h = absurd (false≢true e)

pub not_upper : (r : Bool) (c : ℕ) → r ≡ false → MatchBool r (IsAsciiUppercase c) (IsNotAsciiUppercase c) → (65 ≤ c) × (c ≤ 90) → ⊥
not_upper true c e h = absurd (false≢true (sym e))
not_upper false c e h = λ upper. omega arith

pub counted_more : (m : Modules) (letter count new : ℕ) → 65 ≤ letter → letter < 91 → count ≡ length (filter (serves m) (take (letter - 65) (range_with_len 65 26))) →
    new ≡ count + cond (serves m letter) 1 0 → new ≡ length (filter (serves m) (take (letter + 1 - 65) (range_with_len 65 26)))
counted_more m letter count new low high counted e =
    let i : letter + 1 - 65 ≡ (letter - 65) + 1 = omega arith in
    let at : get_or (range_with_len 65 26) (letter - 65) 0 ≡ letter = get_or-range_with_len 65 26 (letter - 65) 0 (omega arith) ∙ (let k : 65 + (letter - 65) ≡ letter = omega arith in k) in
    e ∙ ap (λ x. x + cond (serves m letter) 1 0) counted
    ∙ ap (λ x. length (filter (serves m) (take (letter - 65) (range_with_len 65 26))) + cond (serves m x) 1 0) (sym at)
    ∙ sym (length-filter_more (serves m) (range_with_len 65 26) (letter - 65) 0 (omega (arith, length-range_with_len 65 26)))
    ∙ ap (λ x. length (filter (serves m) (take x (range_with_len 65 26)))) (sym i)
