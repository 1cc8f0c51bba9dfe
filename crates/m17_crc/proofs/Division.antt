-- Long division, bit by bit, in a register of 16 bits.
use Rattle.std.proofs.Common.{◌≡◌, ◌==◌, ℕ, zero, suc, ◌+◌, ◌*◌, ◌/◌, ◌%◌, ◌^◌, ◌<◌, ◌≤◌, List, [], ◌∷◌, ◌++◌, length, drop, fold, replicate, if◌then◌else◌, refl, sym, ap, ◌∙◌, subst, arith}
use Rattle.std.specs.Int.{bit_at}
use Rattle.std.specs.Int.Bits.{bit_xor, xor_zero_r, xor_lt}
use Rattle.std.proofs.lemmas.Nat.{shr_split, shr-shr}
use Rattle.std.proofs.lemmas.Nat.Bits.{bit_at_xor, bit_at-suc, bit_at-lt, bit_at_lowest, bit_at_cat_low}
use Rattle.std.proofs.lemmas.List.Concat.{flat_map-append}
use Rattle.std.proofs.lemmas.List.Sums.{fold-append}
use Rattle.std.proofs.lemmas.List.{length-append}
use Rattle.m17_lists.proofs.Lengths.{same_cons}
use Rattle.m17_crc.specs.Crc.{byte_bits, bits_of, less_front, remainder, number_of, dividend, crc_of}
use Rattle.m17_crc.specs.Register.{after_bit}

-- each is 0 or 1
abbrev pub AreBits : List ℕ → Type 0
AreBits [] = Unit {0}
AreBits (b ∷ bits) = (b < 2) × AreBits bits

-- the so many low bits of a number, the most significant first
unfoldable pub low_bits : ℕ → ℕ → List ℕ
low_bits zero n = []
low_bits (suc k) n = bit_at n k ∷ low_bits k n

carry_free : (l c d : ℕ) → ((l + c) % 2 + d) % 2 ≡ (l + (c + d) % 2) % 2
carry_free l c d = omega arith

pub less_front-twice : (d c l : List ℕ) → length d ≤ length c → less_front d (less_front c l) ≡ less_front (less_front d c) l
less_front-twice [] c l h = refl
less_front-twice (x ∷ d) [] l h = absurd (omega arith)
less_front-twice (x ∷ d) (y ∷ c) [] h = refl
less_front-twice (x ∷ d) (y ∷ c) (z ∷ l) h = same_cons (carry_free z y x) (less_front-twice d c l (omega arith))

less_zero : (b : ℕ) → b < 2 → (b + 0) % 2 ≡ b
less_zero b h = omega arith

pub less_front-zero_end : (c l : List ℕ) → AreBits l → less_front (c ++ 0 ∷ []) l ≡ less_front c l
less_front-zero_end [] [] h = refl
less_front-zero_end [] (z ∷ l) h = same_cons (less_zero z h.0) refl
less_front-zero_end (y ∷ c) [] h = refl
less_front-zero_end (y ∷ c) (z ∷ l) h = same_cons refl (less_front-zero_end c l h.1)

pub length-low_bits : (k n : ℕ) → length (low_bits k n) ≡ k
unfolding low_bits
length-low_bits zero n = refl
length-low_bits (suc k) n = ap suc (length-low_bits k n)

pub less_front-low_bits : (k a c : ℕ) → less_front (low_bits k a) (low_bits k c) ≡ low_bits k (bit_xor c a)
unfolding low_bits
less_front-low_bits zero a c = refl
less_front-low_bits (suc k) a c = same_cons (sym (bit_at_xor c a k)) (less_front-low_bits k a c)

zero_plus : (b : ℕ) → b < 2 → (0 + b) % 2 ≡ b
zero_plus b h = omega arith

pub less_front-zeros : (k n : ℕ) → less_front (low_bits k n) (replicate k 0) ≡ low_bits k n
unfolding low_bits
less_front-zeros zero n = refl
less_front-zeros (suc k) n = same_cons (zero_plus (bit_at n k) (bit_at-lt n k)) (less_front-zeros k n)

bit_at-low : (n k : ℕ) → k < 15 → bit_at (n % 2 ^ 15) k ≡ bit_at n k
bit_at-low n k h = sym (bit_at_cat_low (n / 2 ^ 15) 15 (n % 2 ^ 15) k h) ∙ ap (λ m. bit_at m k) (shr_split n 15)

half_of_double : (n : ℕ) → 2 * n % 2 ^ 16 / 2 ≡ n % 2 ^ 15
half_of_double n = omega arith

double_even : (n : ℕ) → 2 * n % 2 ^ 16 % 2 ≡ 0
double_even n = omega arith

pub low_bits-double : (k n : ℕ) → k ≤ 15 → low_bits k n ++ 0 ∷ [] ≡ low_bits (suc k) (2 * n % 2 ^ 16)
unfolding low_bits
low_bits-double zero n h = same_cons (sym (bit_at_lowest (2 * n % 2 ^ 16) ∙ double_even n)) refl
low_bits-double (suc k) n h = same_cons (sym (bit_at-suc (2 * n % 2 ^ 16) k ∙ ap (λ m. bit_at m k) (half_of_double n) ∙ bit_at-low n k (omega arith))) (low_bits-double k n (omega arith))

-- ---- one bit

-- what is left behind the first bit, where the digit of the quotient is p
subtracted : ℕ → List ℕ → List ℕ → List ℕ
subtracted p d bits = drop 1 (if p == 1 then less_front (1 ∷ d) bits else bits)

digit_one : (k n m : ℕ) (tail : List ℕ) → k ≤ 15 → AreBits tail
    → subtracted 1 (low_bits (suc k) m) (1 ∷ less_front (low_bits k n) tail) ≡ less_front (low_bits (suc k) (bit_xor (2 * n % 2 ^ 16) m)) tail
unfolding subtracted
digit_one k n m tail h bits =
    let same_length : length (low_bits (suc k) m) ≤ length (low_bits (suc k) (2 * n % 2 ^ 16)) = omega (arith, length-low_bits (suc k) m, length-low_bits (suc k) (2 * n % 2 ^ 16)) in
    ap (less_front (low_bits (suc k) m)) (sym (less_front-zero_end (low_bits k n) tail bits) ∙ ap (λ c. less_front c tail) (low_bits-double k n h))
    ∙ less_front-twice (low_bits (suc k) m) (low_bits (suc k) (2 * n % 2 ^ 16)) tail same_length
    ∙ ap (λ c. less_front c tail) (less_front-low_bits (suc k) m (2 * n % 2 ^ 16))

digit_zero : (k n m : ℕ) (tail : List ℕ) → k ≤ 15 → AreBits tail
    → subtracted 0 (low_bits (suc k) m) (0 ∷ less_front (low_bits k n) tail) ≡ less_front (low_bits (suc k) (bit_xor (2 * n % 2 ^ 16) 0)) tail
unfolding subtracted
digit_zero k n m tail h bits =
    sym (less_front-zero_end (low_bits k n) tail bits)
    ∙ ap (λ c. less_front c tail) (low_bits-double k n h)
    ∙ ap (λ c. less_front (low_bits (suc k) c) tail) (sym (xor_zero_r (2 * n % 2 ^ 16)))

-- the register after one more bit, where the digit of the quotient is p
digit : (p k n m : ℕ) (tail : List ℕ) → p < 2 → k ≤ 15 → AreBits tail
    → subtracted p (low_bits (suc k) m) (p ∷ less_front (low_bits k n) tail) ≡ less_front (low_bits (suc k) (bit_xor (2 * n % 2 ^ 16) (m * p))) tail
digit zero k n m tail small h bits = digit_zero k n m tail h bits ∙ ap (λ c. less_front (low_bits (suc k) (bit_xor (2 * n % 2 ^ 16) c)) tail) (let e : 0 ≡ m * 0 = omega arith in e)
digit (suc zero) k n m tail small h bits = digit_one k n m tail h bits ∙ ap (λ c. less_front (low_bits (suc k) (bit_xor (2 * n % 2 ^ 16) c)) tail) (let e : m ≡ m * 1 = omega arith in e)
digit (suc (suc p)) k n m tail small h bits = absurd (omega arith)

pub bit_below : (b n : ℕ) → (b + n) % 2 < 2
bit_below b n = omega arith

pub remainder-bit : (digits n b : ℕ) (tail : List ℕ) → AreBits tail
    → remainder (suc digits) (less_front (low_bits 16 n) (b ∷ tail)) ≡ remainder digits (less_front (low_bits 16 (after_bit n b)) tail)
unfolding remainder low_bits after_bit subtracted
remainder-bit digits n b tail bits = ap (remainder digits) (digit ((b + bit_at n 15) % 2) 15 n 0x5935 tail (bit_below b (bit_at n 15)) (let h : 15 ≤ 15 = omega arith in h) bits)

-- ---- all bits

AreBits-append : (xs ys : List ℕ) → AreBits xs → AreBits ys → AreBits (xs ++ ys)
AreBits-append [] ys h k = k
AreBits-append (x ∷ xs) ys h k = (h.0, AreBits-append xs ys h.1 k)

AreBits-byte : (byte : ℕ) → AreBits (byte_bits byte)
AreBits-byte byte = (bit_at-lt byte 7, (bit_at-lt byte 6, (bit_at-lt byte 5, (bit_at-lt byte 4, (bit_at-lt byte 3, (bit_at-lt byte 2, (bit_at-lt byte 1, (bit_at-lt byte 0, tt))))))))

AreBits-bytes : (bytes : List ℕ) → AreBits (bits_of bytes)
AreBits-bytes [] = tt
AreBits-bytes (x ∷ xs) = AreBits-append (byte_bits x) (bits_of xs) (AreBits-byte x) (AreBits-bytes xs)

length-bits_of : (bytes : List ℕ) → length (bits_of bytes) ≡ 8 * length bytes
length-bits_of [] = refl
length-bits_of (x ∷ xs) = omega (arith, length-append (byte_bits x) (bits_of xs), length-bits_of xs)

AreBits-zeros : (k : ℕ) → AreBits (replicate k 0)
AreBits-zeros zero = tt
AreBits-zeros (suc k) = (let h : 0 < 2 = omega arith in h, AreBits-zeros k)

remainder-bits : (n : ℕ) (bits : List ℕ) → AreBits bits
    → remainder (length bits) (less_front (low_bits 16 n) (bits ++ replicate 16 0)) ≡ low_bits 16 (fold after_bit n bits)
unfolding remainder
remainder-bits n [] h = less_front-zeros 16 n
remainder-bits n (b ∷ bits) h =
    remainder-bit (length bits) n b (bits ++ replicate 16 0) (AreBits-append bits (replicate 16 0) h.1 (AreBits-zeros 16))
    ∙ remainder-bits (after_bit n b) bits h.1

half_more : (a b : ℕ) → b ≡ a / 2 → 2 * b + a % 2 ≡ a
half_more a b e = omega arith

half_again : (n k j : ℕ) → j ≡ k + 1 → n / 2 ^ j ≡ n / 2 ^ k / 2
half_again n k j e = ap (λ i. n / 2 ^ i) e ∙ sym (shr-shr n k 1)

number_of-low_bits : (k n : ℕ) → fold (λ m b. 2 * m + b) (n / 2 ^ k) (low_bits k n) ≡ n
unfolding low_bits
number_of-low_bits zero n = omega arith
number_of-low_bits (suc k) n =
    ap (λ m. fold (λ m b. 2 * m + b) m (low_bits k n)) (half_more (n / 2 ^ k) (n / 2 ^ suc k) (half_again n k (suc k) (omega arith))) ∙ number_of-low_bits k n

after_bit-lt : (n b : ℕ) → after_bit n b < 2 ^ 16
unfolding after_bit
after_bit-lt n b = xor_lt 16 (2 * n % 2 ^ 16) (0x5935 * ((b + bit_at n 15) % 2)) (omega arith) (omega arith)

after_bits-lt : (n : ℕ) (bits : List ℕ) → n < 2 ^ 16 → fold after_bit n bits < 2 ^ 16
after_bits-lt n [] h = h
after_bits-lt n (b ∷ bits) h = after_bits-lt (after_bit n b) bits (after_bit-lt n b)

start : replicate 16 1 ≡ low_bits 16 0xFFFF
unfolding low_bits
start = refl

-- what is left below 2 ^ 16
none_above : (n : ℕ) → n < 2 ^ 16 → n / 2 ^ 16 ≡ 0
none_above n h = omega arith

pub crc_of-fold : (bytes : List ℕ) → crc_of bytes ≡ fold after_bit 0xFFFF (bits_of bytes)
unfolding crc_of
crc_of-fold bytes =
    let last = fold after_bit 0xFFFF (bits_of bytes) in
    let small : last < 2 ^ 16 = after_bits-lt 0xFFFF (bits_of bytes) (omega arith) in
    ap (λ n. number_of (remainder n (dividend bytes))) (sym (length-bits_of bytes))
    ∙ ap (λ front. number_of (remainder (length (bits_of bytes)) (less_front front (bits_of bytes ++ replicate 16 0)))) start
    ∙ ap number_of (remainder-bits 0xFFFF (bits_of bytes) (AreBits-bytes bytes))
    ∙ ap (λ m. fold (λ n b. 2 * n + b) m (low_bits 16 last)) (sym (none_above last small))
    ∙ number_of-low_bits 16 last

pub crc_of-lt : (bytes : List ℕ) → crc_of bytes < 2 ^ 16
crc_of-lt bytes = subst (λ n. n < 2 ^ 16) (sym (crc_of-fold bytes)) (after_bits-lt 0xFFFF (bits_of bytes) (omega arith))

-- more bytes go on from the CRC so far
pub crc_of-append : (fed bytes : List ℕ) → crc_of (fed ++ bytes) ≡ fold after_bit (crc_of fed) (bits_of bytes)
crc_of-append fed bytes =
    crc_of-fold (fed ++ bytes)
    ∙ ap (fold after_bit 0xFFFF) (flat_map-append byte_bits fed bytes)
    ∙ fold-append after_bit 0xFFFF (bits_of fed) (bits_of bytes)
    ∙ ap (λ n. fold after_bit n (bits_of bytes)) (sym (crc_of-fold fed))

pub crc_of-nil : crc_of [] ≡ 0xFFFF
crc_of-nil = crc_of-fold []
