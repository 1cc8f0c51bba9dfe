-- Division without carry is linear: the remainder of a sum without carry is that of the remainders.
use Rattle.std.proofs.Common.{◌≡◌, take, ◌≢◌, get_or, ℕ, zero, suc, ◌+◌, ◌-◌, ◌*◌, ◌/◌, ◌%◌, ◌^◌, ◌<◌, List, [], ◌∷◌, ◌++◌, map, fold, refl, sym, ap, ◌∙◌, arith}
use Rattle.std.specs.List.{range_with_len}
use Rattle.std.specs.Int.{bit_at}
use Rattle.std.specs.Int.Bits.{bit_and, bit_xor, xor_zero_r, xor_comm, xor_assoc, xor_block}
use Rattle.std.proofs.lemmas.List.Sums.{fold_more}
use Rattle.std.proofs.lemmas.Nat.{xor_mod}
use Rattle.std.proofs.lemmas.Nat.Bits.{bit_at_xor, bit_at-lt, shr_and_one}
use Rattle.std.proofs.lemmas.List.FromFn.{get_or-map-range_with_len}
use Rattle.m17_crc.specs.Crc.{byte_bits, crc_of}
use Rattle.m17_crc.specs.Register.{after_bit, after_byte}
use Rattle.m17_crc.proofs.Division.{bit_below, crc_of-append}

pub xor_swap : (a b c d : ℕ) → bit_xor (bit_xor a b) (bit_xor c d) ≡ bit_xor (bit_xor a c) (bit_xor b d)
xor_swap a b c d =
    xor_assoc a b (bit_xor c d)
    ∙ ap (bit_xor a) (sym (xor_assoc b c d) ∙ ap (λ m. bit_xor m d) (xor_comm b c) ∙ xor_assoc c b d)
    ∙ sym (xor_assoc a c (bit_xor b d))

doubled : (m : ℕ) → m * 2 ^ 1 + 0 ≡ 2 * m
doubled m = omega arith

double-xor : (m n : ℕ) → 2 * bit_xor m n % 2 ^ 16 ≡ bit_xor (2 * m % 2 ^ 16) (2 * n % 2 ^ 16)
double-xor m n =
    ap (λ x. x % 2 ^ 16)
    (sym (doubled (bit_xor m n)) ∙ sym (xor_block 1 m n 0 0 (omega arith) (omega arith)) ∙ ap (λ x. bit_xor x (n * 2 ^ 1 + 0)) (doubled m) ∙ ap (bit_xor (2 * m)) (doubled n))
    ∙ xor_mod (2 * m) (2 * n) 16

-- the polynomial where a bit is 1, for two bits
polynomial-xor : (p q : ℕ) → p < 2 → q < 2 → 0x5935 * ((p + q) % 2) ≡ bit_xor (0x5935 * p) (0x5935 * q)
polynomial-xor zero zero h k = refl
polynomial-xor zero (suc zero) h k = refl
polynomial-xor (suc zero) zero h k = refl
polynomial-xor (suc zero) (suc zero) h k = refl
polynomial-xor (suc (suc p)) q h k = absurd (omega arith)
polynomial-xor zero (suc (suc q)) h k = absurd (omega arith)
polynomial-xor (suc zero) (suc (suc q)) h k = absurd (omega arith)

digit-sum : (a b m n : ℕ) → ((a + b) % 2 + (m + n) % 2) % 2 ≡ ((a + m) % 2 + (b + n) % 2) % 2
digit-sum a b m n = omega arith

after_bit-xor : (m n a b : ℕ) → after_bit (bit_xor m n) ((a + b) % 2) ≡ bit_xor (after_bit m a) (after_bit n b)
unfolding after_bit
after_bit-xor m n a b =
    let p = (a + bit_at m 15) % 2 in
    let q = (b + bit_at n 15) % 2 in
    ap (λ x. bit_xor (2 * bit_xor m n % 2 ^ 16) (0x5935 * (((a + b) % 2 + x) % 2))) (bit_at_xor m n 15)
    ∙ ap (λ x. bit_xor (2 * bit_xor m n % 2 ^ 16) (0x5935 * x)) (digit-sum a b (bit_at m 15) (bit_at n 15))
    ∙ ap (bit_xor (2 * bit_xor m n % 2 ^ 16)) (polynomial-xor p q (bit_below a (bit_at m 15)) (bit_below b (bit_at n 15)))
    ∙ ap (λ x. bit_xor x (bit_xor (0x5935 * p) (0x5935 * q))) (double-xor m n)
    ∙ xor_swap (2 * m % 2 ^ 16) (2 * n % 2 ^ 16) (0x5935 * p) (0x5935 * q)

-- the bits of a byte at some places, counted from the most significant
bits_at : ℕ → List ℕ → List ℕ
bits_at x places = map (λ k. bit_at x (7 - k)) places

after_bits-xor : (places : List ℕ) (m n x y : ℕ)
    → fold after_bit (bit_xor m n) (bits_at (bit_xor x y) places) ≡ bit_xor (fold after_bit m (bits_at x places)) (fold after_bit n (bits_at y places))
unfolding bits_at
after_bits-xor [] m n x y = refl
after_bits-xor (k ∷ places) m n x y =
    ap (λ r. fold after_bit r (bits_at (bit_xor x y) places)) (ap (after_bit (bit_xor m n)) (bit_at_xor x y (7 - k)) ∙ after_bit-xor m n (bit_at x (7 - k)) (bit_at y (7 - k)))
    ∙ after_bits-xor places (after_bit m (bit_at x (7 - k))) (after_bit n (bit_at y (7 - k))) x y

pub after_byte-xor : (m n x y : ℕ) → after_byte (bit_xor m n) (bit_xor x y) ≡ bit_xor (after_byte m x) (after_byte n y)
unfolding after_byte bits_at
after_byte-xor m n x y = after_bits-xor (range_with_len 0 8) m n x y

-- ---- with a byte that is 0 on one side

pub after_byte-apart : (n x : ℕ) → after_byte n x ≡ bit_xor (after_byte n 0) (after_byte 0 x)
after_byte-apart n x = ap (λ m. after_byte m x) (sym (xor_zero_r n)) ∙ after_byte-xor n 0 0 x

-- the bits that stand ahead of a zero byte
pub after_zeros-xor : (m n : ℕ) → after_byte (bit_xor m n) 0 ≡ bit_xor (after_byte m 0) (after_byte n 0)
after_zeros-xor m n = after_byte-xor m n 0 0

-- ---- bytes after what was fed

pub crc_of-byte : (fed : List ℕ) (x : ℕ) → crc_of (fed ++ x ∷ []) ≡ after_byte (crc_of fed) x
unfolding after_byte
crc_of-byte fed x = crc_of-append fed (x ∷ [])

-- ---- the bit by bit code

bit_15 : (n : ℕ) → n < 2 ^ 16 → bit_at n 15 ≡ n / 2 ^ 15
bit_15 n h = omega arith

digit_same : (b p : ℕ) → b < 2 → p ≡ b → (b + p) % 2 ≡ 0
digit_same b p h e = omega arith

digit_other : (b p : ℕ) → b < 2 → p < 2 → p ≢ b → (b + p) % 2 ≡ 1
digit_other b p h k e = omega arith

pub after_bit-same : (n b : ℕ) → n < 2 ^ 16 → b < 2 → n / 2 ^ 15 ≡ b → n * 2 % 2 ^ 16 ≡ after_bit n b
unfolding after_bit
after_bit-same n b h k e =
    let d : n * 2 ≡ 2 * n = omega arith in
    ap (λ m. m % 2 ^ 16) d
    ∙ sym (ap (λ p. bit_xor (2 * n % 2 ^ 16) (0x5935 * p)) (digit_same b (bit_at n 15) k (bit_15 n h ∙ e)) ∙ xor_zero_r (2 * n % 2 ^ 16))

pub after_bit-other : (n b : ℕ) → n < 2 ^ 16 → b < 2 → n / 2 ^ 15 ≢ b → bit_xor (n * 2 % 2 ^ 16) 0x5935 ≡ after_bit n b
unfolding after_bit
after_bit-other n b h k e =
    let d : n * 2 ≡ 2 * n = omega arith in
    let other : (b + bit_at n 15) % 2 ≡ 1 = digit_other b (bit_at n 15) k (bit_at-lt n 15) (λ f. e (sym (bit_15 n h) ∙ f)) in
    ap (λ m. bit_xor (m % 2 ^ 16) 0x5935) d
    ∙ sym (ap (λ p. bit_xor (2 * n % 2 ^ 16) (0x5935 * p)) other)

pub byte_bits-place : (x k : ℕ) → k < 8 → bit_at x (7 - k) ≡ get_or (byte_bits x) k 0
byte_bits-place x k h = sym (get_or-map-range_with_len (λ k. bit_at x (7 - k)) 0 8 k k 0 h (omega arith))

-- the loop over the places of a byte's bits
pub place_more : (n r x k bit s : ℕ) → k < 8 → r ≡ fold after_bit n (take k (byte_bits x)) → bit ≡ bit_and (x / 2 ^ (7 - k)) 1 → s ≡ after_bit r bit
    → s ≡ fold after_bit n (take (k + 1) (byte_bits x))
place_more n r x k bit s h e f g =
    g ∙ ap (λ m. after_bit m bit) e
    ∙ ap (after_bit (fold after_bit n (take k (byte_bits x)))) (f ∙ shr_and_one x (7 - k) ∙ byte_bits-place x k h)
    ∙ sym (fold_more after_bit n (byte_bits x) k 0 h)

pub place_all : (n r x k : ℕ) → k ≡ 8 → r ≡ fold after_bit n (take k (byte_bits x)) → r ≡ after_byte n x
unfolding after_byte
place_all n r x k e f = f ∙ ap (λ m. fold after_bit n (take m (byte_bits x))) e
