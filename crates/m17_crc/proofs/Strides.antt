-- A stride of eight bytes by the eight tables.
use Rattle.std.proofs.Common.{◌≡◌, ℕ, ◌+◌, ◌-◌, ◌*◌, ◌/◌, ◌%◌, ◌^◌, ◌<◌, List, [], ◌∷◌, ◌++◌, map, fold, get_or, take, drop, length, refl, sym, ap, ◌∙◌, arith}
use Rattle.std.specs.Int.Bits.{bit_xor}
use Rattle.std.proofs.lemmas.Nat.{xor_lt}
use Rattle.std.proofs.Math.Seq.{take-add}
use Rattle.std.proofs.lemmas.List.{get_or-map}
use Rattle.std.proofs.lemmas.List.Sums.{fold-append}
use Rattle.m17_crc.specs.Crc.{crc_of, byte_bits, bits_of}
use Rattle.m17_crc.specs.Register.{after_bit, after_byte}
use Rattle.m17_crc.specs.declared.tables.TheConstants.{REMAINDERS_0, REMAINDERS_1, REMAINDERS_2, REMAINDERS_3, REMAINDERS_4, REMAINDERS_5, REMAINDERS_6, REMAINDERS_7}
use Rattle.m17_crc.proofs.Division.{crc_of-append}
use Rattle.m17_crc.proofs.Linear.{after_byte-xor, after_byte-apart, after_zeros-xor}
use Rattle.m17_crc.proofs.Entries.{entry_0, into_high, after_byte-halves}

-- ---- the notation

infixl 10 ◌⊕◌
abbrev ◌⊕◌ : ℕ → ℕ → ℕ
m ⊕ n = bit_xor m n

abbrev t0 : ℕ → ℕ
t0 x = get_or REMAINDERS_0 x 0

abbrev t1 : ℕ → ℕ
t1 x = get_or REMAINDERS_1 x 0

abbrev t2 : ℕ → ℕ
t2 x = get_or REMAINDERS_2 x 0

abbrev t3 : ℕ → ℕ
t3 x = get_or REMAINDERS_3 x 0

abbrev t4 : ℕ → ℕ
t4 x = get_or REMAINDERS_4 x 0

abbrev t5 : ℕ → ℕ
t5 x = get_or REMAINDERS_5 x 0

abbrev t6 : ℕ → ℕ
t6 x = get_or REMAINDERS_6 x 0

abbrev t7 : ℕ → ℕ
t7 x = get_or REMAINDERS_7 x 0

-- ---- each table is the one before with a zero byte more

zero_more : (table next : List ℕ) (x : ℕ) → x < length table → map (λ r. after_byte r 0) table ≡ next → after_byte (get_or table x 0) 0 ≡ get_or next x 0
zero_more table next x h e = sym (get_or-map (λ r. after_byte r 0) table x 0 0 h) ∙ ap (λ l. get_or l x 0) e

table_1 : map (λ r. after_byte r 0) REMAINDERS_0 ≡ REMAINDERS_1
unfolding after_byte after_bit
table_1 = refl

table_2 : map (λ r. after_byte r 0) REMAINDERS_1 ≡ REMAINDERS_2
unfolding after_byte after_bit
table_2 = refl

table_3 : map (λ r. after_byte r 0) REMAINDERS_2 ≡ REMAINDERS_3
unfolding after_byte after_bit
table_3 = refl

table_4 : map (λ r. after_byte r 0) REMAINDERS_3 ≡ REMAINDERS_4
unfolding after_byte after_bit
table_4 = refl

table_5 : map (λ r. after_byte r 0) REMAINDERS_4 ≡ REMAINDERS_5
unfolding after_byte after_bit
table_5 = refl

table_6 : map (λ r. after_byte r 0) REMAINDERS_5 ≡ REMAINDERS_6
unfolding after_byte after_bit
table_6 = refl

table_7 : map (λ r. after_byte r 0) REMAINDERS_6 ≡ REMAINDERS_7
unfolding after_byte after_bit
table_7 = refl

entry_1 : (x : ℕ) → x < 256 → after_byte (t0 x) 0 ≡ get_or REMAINDERS_1 x 0
entry_1 x h = zero_more REMAINDERS_0 REMAINDERS_1 x h table_1

entry_2 : (x : ℕ) → x < 256 → after_byte (t1 x) 0 ≡ get_or REMAINDERS_2 x 0
entry_2 x h = zero_more REMAINDERS_1 REMAINDERS_2 x h table_2

entry_3 : (x : ℕ) → x < 256 → after_byte (t2 x) 0 ≡ get_or REMAINDERS_3 x 0
entry_3 x h = zero_more REMAINDERS_2 REMAINDERS_3 x h table_3

entry_4 : (x : ℕ) → x < 256 → after_byte (t3 x) 0 ≡ get_or REMAINDERS_4 x 0
entry_4 x h = zero_more REMAINDERS_3 REMAINDERS_4 x h table_4

entry_5 : (x : ℕ) → x < 256 → after_byte (t4 x) 0 ≡ get_or REMAINDERS_5 x 0
entry_5 x h = zero_more REMAINDERS_4 REMAINDERS_5 x h table_5

entry_6 : (x : ℕ) → x < 256 → after_byte (t5 x) 0 ≡ get_or REMAINDERS_6 x 0
entry_6 x h = zero_more REMAINDERS_5 REMAINDERS_6 x h table_6

entry_7 : (x : ℕ) → x < 256 → after_byte (t6 x) 0 ≡ get_or REMAINDERS_7 x 0
entry_7 x h = zero_more REMAINDERS_6 REMAINDERS_7 x h table_7

-- ---- from byte to byte

-- a zero byte after a sum
moves : (p q r s : ℕ) → after_byte p 0 ≡ r → after_byte q 0 ≡ s → after_byte (p ⊕ q) 0 ≡ r ⊕ s
moves p q r s e f = after_zeros-xor p q ∙ ap (λ m. m ⊕ after_byte q 0) e ∙ ap (λ m. r ⊕ m) f

-- a byte after what a zero byte moves
next : (p q x : ℕ) → x < 256 → after_byte p 0 ≡ q → after_byte p x ≡ q ⊕ t0 x
next p q x h e = after_byte-apart p x ∙ ap (λ m. m ⊕ after_byte 0 x) e ∙ ap (λ m. q ⊕ m) (entry_0 x h)

-- the first two bytes take the register's two bytes with them
two_bytes : (n x y : ℕ) → n < 2 ^ 16 → x < 2 ^ 8 → y < 2 ^ 8 → after_byte (after_byte n x) y ≡ t1 (n / 2 ^ 8 ⊕ x) ⊕ t0 (n % 2 ^ 8 ⊕ y)
two_bytes n x y h k l =
    let first = n / 2 ^ 8 ⊕ x in
    let low = n % 2 ^ 8 in
    let second = low ⊕ y in
    let low_small : low < 2 ^ 8 = omega arith in
    let first_small : first < 2 ^ 8 = xor_lt 8 (n / 2 ^ 8) x (omega arith) k in
    let second_small : second < 2 ^ 8 = xor_lt 8 low y low_small l in
    ap (λ m. after_byte m y) (after_byte-halves n x h)
    ∙ after_byte-xor (after_byte 0 first) (low * 2 ^ 8) 0 y
    ∙ ap (λ m. after_byte (after_byte 0 first) 0 ⊕ m) (into_high low y low_small ∙ entry_0 second second_small)
    ∙ ap (λ m. m ⊕ t0 second) (ap (λ m. after_byte m 0) (entry_0 first first_small) ∙ entry_1 first first_small)

module _ (a b c d e f g h : ℕ) (a_in : a < 256) (b_in : b < 256) (c_in : c < 256) (d_in : d < 256) (e_in : e < 256) (f_in : f < 256) (g_in : g < 256) (h_in : h < 256) where
  next_3 : after_byte (t1 a ⊕ t0 b) c ≡ t2 a ⊕ t1 b ⊕ t0 c
  next_3 = next _ _ c c_in (moves _ _ _ _ (entry_2 a a_in) (entry_1 b b_in))

  next_4 : after_byte (t2 a ⊕ t1 b ⊕ t0 c) d ≡ t3 a ⊕ t2 b ⊕ t1 c ⊕ t0 d
  next_4 = next _ _ d d_in (moves _ _ _ _ (moves _ _ _ _ (entry_3 a a_in) (entry_2 b b_in)) (entry_1 c c_in))

  next_5 : after_byte (t3 a ⊕ t2 b ⊕ t1 c ⊕ t0 d) e ≡ t4 a ⊕ t3 b ⊕ t2 c ⊕ t1 d ⊕ t0 e
  next_5 = next _ _ e e_in (moves _ _ _ _ (moves _ _ _ _ (moves _ _ _ _ (entry_4 a a_in) (entry_3 b b_in)) (entry_2 c c_in)) (entry_1 d d_in))

  next_6 : after_byte (t4 a ⊕ t3 b ⊕ t2 c ⊕ t1 d ⊕ t0 e) f ≡ t5 a ⊕ t4 b ⊕ t3 c ⊕ t2 d ⊕ t1 e ⊕ t0 f
  next_6 = next _ _ f f_in (moves _ _ _ _ (moves _ _ _ _ (moves _ _ _ _ (moves _ _ _ _ (entry_5 a a_in) (entry_4 b b_in)) (entry_3 c c_in)) (entry_2 d d_in)) (entry_1 e e_in))

  next_7 : after_byte (t5 a ⊕ t4 b ⊕ t3 c ⊕ t2 d ⊕ t1 e ⊕ t0 f) g ≡ t6 a ⊕ t5 b ⊕ t4 c ⊕ t3 d ⊕ t2 e ⊕ t1 f ⊕ t0 g
  next_7 = next _ _ g g_in (moves _ _ _ _ (moves _ _ _ _ (moves _ _ _ _ (moves _ _ _ _ (moves _ _ _ _ (entry_6 a a_in) (entry_5 b b_in)) (entry_4 c c_in)) (entry_3 d d_in)) (entry_2 e e_in)) (entry_1 f f_in))

  next_8 : after_byte (t6 a ⊕ t5 b ⊕ t4 c ⊕ t3 d ⊕ t2 e ⊕ t1 f ⊕ t0 g) h ≡ t7 a ⊕ t6 b ⊕ t5 c ⊕ t4 d ⊕ t3 e ⊕ t2 f ⊕ t1 g ⊕ t0 h
  next_8 = next _ _ h h_in (moves _ _ _ _ (moves _ _ _ _ (moves _ _ _ _ (moves _ _ _ _ (moves _ _ _ _ (moves _ _ _ _ (entry_7 a a_in) (entry_6 b b_in)) (entry_5 c c_in)) (entry_4 d d_in)) (entry_3 e e_in)) (entry_2 f f_in)) (entry_1 g g_in))

  six_more : fold after_byte (t1 a ⊕ t0 b) (c ∷ d ∷ e ∷ f ∷ g ∷ h ∷ []) ≡ t7 a ⊕ t6 b ⊕ t5 c ⊕ t4 d ⊕ t3 e ⊕ t2 f ⊕ t1 g ⊕ t0 h
  six_more =
      ap (λ m. fold after_byte m (d ∷ e ∷ f ∷ g ∷ h ∷ [])) next_3
      ∙ ap (λ m. fold after_byte m (e ∷ f ∷ g ∷ h ∷ [])) next_4
      ∙ ap (λ m. fold after_byte m (f ∷ g ∷ h ∷ [])) next_5
      ∙ ap (λ m. fold after_byte m (g ∷ h ∷ [])) next_6
      ∙ ap (λ m. fold after_byte m (h ∷ [])) next_7
      ∙ next_8

stride : (n x y c d e f g h : ℕ) → n < 2 ^ 16 → x < 256 → y < 256 → c < 256 → d < 256 → e < 256 → f < 256 → g < 256 → h < 256
    → fold after_byte n (x ∷ y ∷ c ∷ d ∷ e ∷ f ∷ g ∷ h ∷ []) ≡ t7 (n / 2 ^ 8 ⊕ x) ⊕ t6 (n % 2 ^ 8 ⊕ y) ⊕ t5 c ⊕ t4 d ⊕ t3 e ⊕ t2 f ⊕ t1 g ⊕ t0 h
stride n x y c d e f g h n_in x_in y_in c_in d_in e_in f_in g_in h_in =
    let a = n / 2 ^ 8 ⊕ x in
    let b = n % 2 ^ 8 ⊕ y in
    let a_in : a < 256 = xor_lt 8 (n / 2 ^ 8) x (omega arith) x_in in
    let b_in : b < 256 = xor_lt 8 (n % 2 ^ 8) y (omega arith) y_in in
    ap (λ m. fold after_byte m (c ∷ d ∷ e ∷ f ∷ g ∷ h ∷ [])) (two_bytes n x y n_in x_in y_in)
    ∙ six_more a b c d e f g h a_in b_in c_in d_in e_in f_in g_in h_in

-- a list of eight is its elements
eight : (xs : List ℕ) → length xs ≡ 8
    → xs ≡ get_or xs 0 0 ∷ get_or xs 1 0 ∷ get_or xs 2 0 ∷ get_or xs 3 0 ∷ get_or xs 4 0 ∷ get_or xs 5 0 ∷ get_or xs 6 0 ∷ get_or xs 7 0 ∷ []
eight (a ∷ b ∷ c ∷ d ∷ e ∷ f ∷ g ∷ h ∷ []) l = refl
eight (a ∷ b ∷ c ∷ d ∷ e ∷ f ∷ g ∷ h ∷ i ∷ xs) l = absurd (omega arith)
eight (a ∷ b ∷ c ∷ d ∷ e ∷ f ∷ g ∷ []) l = absurd (omega arith)
eight (a ∷ b ∷ c ∷ d ∷ e ∷ f ∷ []) l = absurd (omega arith)
eight (a ∷ b ∷ c ∷ d ∷ e ∷ []) l = absurd (omega arith)
eight (a ∷ b ∷ c ∷ d ∷ []) l = absurd (omega arith)
eight (a ∷ b ∷ c ∷ []) l = absurd (omega arith)
eight (a ∷ b ∷ []) l = absurd (omega arith)
eight (a ∷ []) l = absurd (omega arith)
eight [] l = absurd (omega arith)

-- the step by the tables, as the code computes it from the register's two bytes
pub stride_step : (n : ℕ) (xs halves : List ℕ) → n < 2 ^ 16 → length xs ≡ 8 → ((k : ℕ) → k < 8 → get_or xs k 0 < 256) → halves ≡ n / 2 ^ 8 % 2 ^ 8 ∷ n % 2 ^ 8 ∷ []
    → t7 (get_or halves 0 0 ⊕ get_or xs 0 0) ⊕ t6 (get_or halves 1 0 ⊕ get_or xs 1 0) ⊕ t5 (get_or xs 2 0) ⊕ t4 (get_or xs 3 0) ⊕ t3 (get_or xs 4 0) ⊕ t2 (get_or xs 5 0) ⊕ t1 (get_or xs 6 0) ⊕ t0 (get_or xs 7 0)
    ≡ fold after_byte n xs
stride_step n xs halves n_in l in_range e =
    let high : n / 2 ^ 8 % 2 ^ 8 ≡ n / 2 ^ 8 = omega arith in
    let at = λ (k : ℕ). get_or xs k 0 in
    ap (λ p. t7 (p ⊕ at 0) ⊕ t6 (get_or halves 1 0 ⊕ at 1) ⊕ t5 (at 2) ⊕ t4 (at 3) ⊕ t3 (at 4) ⊕ t2 (at 5) ⊕ t1 (at 6) ⊕ t0 (at 7)) (ap (λ l. get_or l 0 0) e ∙ high)
    ∙ ap (λ p. t7 (n / 2 ^ 8 ⊕ at 0) ⊕ t6 (p ⊕ at 1) ⊕ t5 (at 2) ⊕ t4 (at 3) ⊕ t3 (at 4) ⊕ t2 (at 5) ⊕ t1 (at 6) ⊕ t0 (at 7)) (ap (λ l. get_or l 1 0) e)
    ∙ sym (stride n (at 0) (at 1) (at 2) (at 3) (at 4) (at 5) (at 6) (at 7) n_in (in_range 0 (omega arith)) (in_range 1 (omega arith)) (in_range 2 (omega arith)) (in_range 3 (omega arith)) (in_range 4 (omega arith)) (in_range 5 (omega arith)) (in_range 6 (omega arith)) (in_range 7 (omega arith)))
    ∙ ap (fold after_byte n) (sym (eight xs l))

-- ---- strides after what was fed

fold-bits_of : (n : ℕ) (xs : List ℕ) → fold after_bit n (bits_of xs) ≡ fold after_byte n xs
unfolding after_byte
fold-bits_of n [] = refl
fold-bits_of n (x ∷ xs) = fold-append after_bit n (byte_bits x) (bits_of xs) ∙ fold-bits_of (fold after_bit n (byte_bits x)) xs

pub crc_of-bytes : (fed xs : List ℕ) → crc_of (fed ++ xs) ≡ fold after_byte (crc_of fed) xs
crc_of-bytes fed xs = crc_of-append fed xs ∙ fold-bits_of (crc_of fed) xs

pub stride_more : (xs : List ℕ) (i : ℕ) → take (i * 8) xs ++ take (i * 8 + 8 - i * 8) (drop (i * 8) xs) ≡ take ((i + 1) * 8) xs
stride_more xs i =
    let width : i * 8 + 8 - i * 8 ≡ 8 = omega arith in
    let end : i * 8 + 8 ≡ (i + 1) * 8 = omega arith in
    ap (λ k. take (i * 8) xs ++ take k (drop (i * 8) xs)) width ∙ sym (take-add (i * 8) 8 xs) ∙ ap (λ k. take k xs) end
