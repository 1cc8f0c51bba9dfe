-- Numbers and the bytes of their fields give each other.
use Rattle.std.proofs.Common.{ℕ, zero, suc, ◌≡◌, ◌/◌, ◌%◌, ◌^◌, ◌<◌, List, ◌∷◌, length, get_or, drop, refl, sym, ap, ◌∙◌, arith, inl, inr}
use Rattle.std.proofs.lemmas.Bool.{cases_lt}
use Rattle.std.proofs.lemmas.List.{get_or_past}
use Rattle.std.proofs.lemmas.Nat.{be_bytes_2, be_bytes_4, be_bytes_8, from_be_bytes-to_be_bytes_2, from_be_bytes-to_be_bytes_4, from_be_bytes-to_be_bytes_8}
use Rattle.std.specs.Int.{w16, w32, w64, to_be_bytes, from_be_bytes}
use Rattle.m17_fields.specs.Fields.{be_48, IsBytes, Fields16AreExact, Fields32AreExact, Fields48AreExact, Fields64AreExact}

byte_at : (b : List ℕ) → IsBytes b → (i : ℕ) → get_or b i 0 < 256
byte_at b h i = elim (cases_lt i (length b)) [ inl k ↦ h i 0 k | inr k ↦ rw (get_or_past b i 0 k) (omega arith) ]

pub exact_16 : Fields16AreExact
exact_16 = record {
  one_number = λ a b ha hb e.
      sym (from_be_bytes-to_be_bytes_2 a ha) ∙ ap (from_be_bytes w16) e ∙ from_be_bytes-to_be_bytes_2 b hb;
  each_bytes = λ b long h.
      (from_be_bytes w16 b, omega (arith, byte_at b h 0, byte_at b h 1), be_bytes_2 b (from_be_bytes w16 b) long (byte_at b h) refl);
}

pub exact_32 : Fields32AreExact
exact_32 = record {
  one_number = λ a b ha hb e.
      sym (from_be_bytes-to_be_bytes_4 a ha) ∙ ap (from_be_bytes w32) e ∙ from_be_bytes-to_be_bytes_4 b hb;
  each_bytes = λ b long h.
      (from_be_bytes w32 b, omega (arith, byte_at b h 0, byte_at b h 1, byte_at b h 2, byte_at b h 3), be_bytes_4 b (from_be_bytes w32 b) long (byte_at b h) refl);
}

pub exact_64 : Fields64AreExact
exact_64 = record {
  one_number = λ a b ha hb e.
      sym (from_be_bytes-to_be_bytes_8 a ha) ∙ ap (from_be_bytes w64) e ∙ from_be_bytes-to_be_bytes_8 b hb;
  each_bytes = λ b long h. (
    from_be_bytes w64 b,
    omega (arith, byte_at b h 0, byte_at b h 1, byte_at b h 2, byte_at b h 3, byte_at b h 4, byte_at b h 5, byte_at b h 6, byte_at b h 7),
    be_bytes_8 b (from_be_bytes w64 b) long (byte_at b h) refl,
  );
}

-- the eight bytes of a number of 48 bits begin with two zeros
two_zeros : (a : ℕ) → a < 2 ^ 48 → to_be_bytes w64 a ≡ 0 ∷ 0 ∷ be_48 a
two_zeros a small =
    let first : a / 72057594037927936 % 256 ≡ 0 = omega arith in
    let second : a / 281474976710656 % 256 ≡ 0 = omega arith in
    ap (λ x. x ∷ a / 281474976710656 % 256 ∷ be_48 a) first ∙ ap (λ x. 0 ∷ x ∷ be_48 a) second

one_48 : (a b : ℕ) → a < 2 ^ 48 → b < 2 ^ 48 → be_48 a ≡ be_48 b → a ≡ b
one_48 a b ha hb e =
    sym (from_be_bytes-to_be_bytes_8 a (omega arith))
    ∙ ap (from_be_bytes w64) (two_zeros a ha ∙ ap (λ x. 0 ∷ 0 ∷ x) e ∙ sym (two_zeros b hb))
    ∙ from_be_bytes-to_be_bytes_8 b (omega arith)

eight_small : (b : List ℕ) → IsBytes b → (i : ℕ) → get_or (0 ∷ 0 ∷ b) i 0 < 256
eight_small b h zero = omega arith
eight_small b h (suc zero) = omega arith
eight_small b h (suc (suc i)) = byte_at b h i

each_48 : (b : List ℕ) → length b ≡ 6 → IsBytes b → (n : ℕ) × (n < 2 ^ 48) × (be_48 n ≡ b)
each_48 b long h = (
  from_be_bytes w64 (0 ∷ 0 ∷ b),
  omega (arith, byte_at b h 0, byte_at b h 1, byte_at b h 2, byte_at b h 3, byte_at b h 4, byte_at b h 5),
  ap (drop 2) (be_bytes_8 (0 ∷ 0 ∷ b) (from_be_bytes w64 (0 ∷ 0 ∷ b)) (omega arith) (eight_small b h) refl),
)

pub exact_48 : Fields48AreExact
exact_48 = record { one_number = one_48; each_bytes = each_48 }
