-- Sets of modules are equal where their letters are.
use Rattle.std.proofs.Common.{◌≡◌, ℕ, ◌+◌, ◌-◌, ◌*◌, ◌%◌, ◌^◌, ◌<◌, ◌≤◌, ◌==◌, bit_or, sym, ap, subst, ◌∙◌, arith}
use Rattle.std.specs.Int.{bit_at}
use Rattle.std.proofs.lemmas.Nat.Bits.{bit_at-lt, same_from_bits_below}
use Rattle.std.proofs.lemmas.Bool.Decides.{nat_tests}
use Rattle.std.proofs.lemmas.Nat.{or_lt}
use Rattle.std.proofs.Math.Nat.{mod-le}
use Rattle.std.proofs.Math.Pow.{pow-lt}
use Rattle.m17_control.specs.declared.modules.Modules.{Modules}
use Rattle.m17_control.specs.Modules.{IsSet}
use Rattle.m17_control.specs.Laws.{SetsAreTheirLetters}
use Rattle.m17_control.proofs.ModuleSets.{serves_is}

-- a bit is told by whether it is 1
same_bit : (x y : ℕ) → x < 2 → y < 2 → (x == 1) ≡ (y == 1) → x ≡ y
same_bit x y small few e = grind (arith, nat_tests)

-- a set is its bits
abbrev with_bits : ℕ → Modules
with_bits x = record { 0 = x }

of_bits : (m n : Modules) → m.0 ≡ n.0 → m ≡ n
of_bits m n e = ap with_bits e

pub sets-are-their-letters : SetsAreTheirLetters
sets-are-their-letters m n small few same =
    of_bits m n (same_from_bits_below 26 m.0 n.0 small few (λ i less.
    same_bit (bit_at m.0 i) (bit_at n.0 i) (bit_at-lt m.0 i) (bit_at-lt n.0 i)
    (ap (λ j. bit_at m.0 j == 1) (omega arith) ∙ sym (serves_is m (65 + i) (omega arith) (omega (arith, less)))
    ∙ same (65 + i) ∙ serves_is n (65 + i) (omega arith) (omega (arith, less))
    ∙ ap (λ j. bit_at n.0 j == 1) (omega arith))))

one_more : (letter : ℕ) → 65 ≤ letter → letter ≤ 90 → 1 * 2 ^ (letter - 65) % 2 ^ 32 < 2 ^ 26
one_more letter low high =
    omega (arith, mod-le (1 * 2 ^ (letter - 65)) (2 ^ 32), pow-lt {i = letter - 65} {j = 26} (omega (arith, low, high)))

pub put_set : (m n : Modules) (letter : ℕ) → 65 ≤ letter → letter ≤ 90
    → n.0 ≡ bit_or m.0 (1 * 2 ^ (letter - 65) % 2 ^ 32) → IsSet m → IsSet n
put_set m n letter low high e small =
    subst (λ x. x < 2 ^ 26) (sym e) (or_lt 26 m.0 (1 * 2 ^ (letter - 65) % 2 ^ 32) small (one_more letter low high))
