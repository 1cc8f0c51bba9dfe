-- The tables hold remainders of bytes: each is computed here and compared.
use Rattle.std.proofs.Common.{◌≡◌, ℕ, ◌+◌, ◌*◌, ◌/◌, ◌%◌, ◌^◌, ◌<◌, List, [], ◌∷◌, map, get_or, refl, sym, ap, ◌∙◌, arith}
use Rattle.std.specs.List.{range_with_len}
use Rattle.std.specs.Int.Bits.{bit_xor, xor_zero_r, xor_assoc, xor_self, xor_block}
use Rattle.std.proofs.lemmas.Nat.{shr_split, xor_lt}
use Rattle.std.proofs.lemmas.List.FromFn.{get_or-map-range_with_len}
use Rattle.m17_crc.specs.Register.{after_bit, after_byte}
use Rattle.m17_crc.specs.declared.tables.TheConstants.{REMAINDERS_0}
use Rattle.m17_crc.proofs.Linear.{after_byte-xor}

table_0 : map (λ x. after_byte 0 x) (range_with_len 0 256) ≡ REMAINDERS_0
unfolding after_byte after_bit
table_0 = refl

zeros : map (λ x. after_byte (x * 2 ^ 8) x) (range_with_len 0 256) ≡ map (λ x. 0) (range_with_len 0 256)
unfolding after_byte after_bit
zeros = refl

moved : map (λ x. after_byte x 0) (range_with_len 0 256) ≡ map (λ x. x * 2 ^ 8) (range_with_len 0 256)
unfolding after_byte after_bit
moved = refl

at_place : (f g : ℕ → ℕ) (x : ℕ) → x < 256 → map f (range_with_len 0 256) ≡ map g (range_with_len 0 256) → f x ≡ g x
at_place f g x h e =
    sym (get_or-map-range_with_len f 0 256 x x 0 h (omega arith)) ∙ ap (λ l. get_or l x 0) e ∙ get_or-map-range_with_len g 0 256 x x 0 h (omega arith)

at_entry : (f : ℕ → ℕ) (table : List ℕ) (x : ℕ) → x < 256 → map f (range_with_len 0 256) ≡ table → f x ≡ get_or table x 0
at_entry f table x h e = sym (get_or-map-range_with_len f 0 256 x x 0 h (omega arith)) ∙ ap (λ l. get_or l x 0) e

pub entry_0 : (x : ℕ) → x < 256 → after_byte 0 x ≡ get_or REMAINDERS_0 x 0
entry_0 x h = at_entry (after_byte 0) REMAINDERS_0 x h table_0

-- ---- a byte goes into the high half of the register

-- a register by its halves
halves : (n : ℕ) → n ≡ bit_xor (n / 2 ^ 8 * 2 ^ 8) (n % 2 ^ 8)
halves n =
    let low : n % 2 ^ 8 < 2 ^ 8 = omega arith in
    let e : n / 2 ^ 8 * 2 ^ 8 ≡ n / 2 ^ 8 * 2 ^ 8 + 0 = omega arith in
    let d : n % 2 ^ 8 ≡ 0 * 2 ^ 8 + n % 2 ^ 8 = omega arith in
    sym (ap (λ m. bit_xor m (n % 2 ^ 8)) e
    ∙ ap (bit_xor (n / 2 ^ 8 * 2 ^ 8 + 0)) d
    ∙ xor_block 8 (n / 2 ^ 8) 0 0 (n % 2 ^ 8) (omega arith) low
    ∙ ap (λ m. m * 2 ^ 8 + n % 2 ^ 8) (xor_zero_r (n / 2 ^ 8))
    ∙ shr_split n 8)

-- a byte after a register that is only that byte's negative leaves nothing
pub into_high : (high x : ℕ) → high < 2 ^ 8 → after_byte (high * 2 ^ 8) x ≡ after_byte 0 (bit_xor high x)
into_high high x h =
    ap (λ m. after_byte m x) (sym (xor_zero_r (high * 2 ^ 8)))
    ∙ ap (after_byte (bit_xor (high * 2 ^ 8) 0)) (sym (sym (xor_assoc high high x) ∙ ap (λ m. bit_xor m x) (xor_self high)))
    ∙ after_byte-xor (high * 2 ^ 8) 0 high (bit_xor high x)
    ∙ ap (λ m. bit_xor m (after_byte 0 (bit_xor high x))) (at_place (λ x. after_byte (x * 2 ^ 8) x) (λ x. 0) high h zeros)

pub after_byte-halves : (n x : ℕ) → n < 2 ^ 16 → after_byte n x ≡ bit_xor (after_byte 0 (bit_xor (n / 2 ^ 8) x)) (n % 2 ^ 8 * 2 ^ 8)
after_byte-halves n x h =
    let high : n / 2 ^ 8 < 2 ^ 8 = omega arith in
    let low : n % 2 ^ 8 < 2 ^ 8 = omega arith in
    ap (λ m. after_byte m x) (halves n)
    ∙ ap (after_byte (bit_xor (n / 2 ^ 8 * 2 ^ 8) (n % 2 ^ 8))) (sym (xor_zero_r x))
    ∙ after_byte-xor (n / 2 ^ 8 * 2 ^ 8) (n % 2 ^ 8) x 0
    ∙ ap (λ m. bit_xor m (after_byte (n % 2 ^ 8) 0)) (into_high (n / 2 ^ 8) x high)
    ∙ ap (bit_xor (after_byte 0 (bit_xor (n / 2 ^ 8) x))) (at_place (λ x. after_byte x 0) (λ x. x * 2 ^ 8) (n % 2 ^ 8) low moved)

-- one byte by the table
pub after_byte-table : (n x : ℕ) → n < 2 ^ 16 → x < 2 ^ 8 → after_byte n x ≡ bit_xor (get_or REMAINDERS_0 (bit_xor (n / 2 ^ 8) x) 0) (n % 2 ^ 8 * 2 ^ 8)
after_byte-table n x h k =
    after_byte-halves n x h
    ∙ ap (λ m. bit_xor m (n % 2 ^ 8 * 2 ^ 8)) (entry_0 (bit_xor (n / 2 ^ 8) x) (xor_lt 8 (n / 2 ^ 8) x (omega arith) k))

-- the step by the table, as the code computes it from the register's two bytes
pub byte_step : (n x l : ℕ) (bytes : List ℕ) → n < 2 ^ 16 → x < 2 ^ 8 → bytes ≡ n / 2 ^ 8 % 2 ^ 8 ∷ n % 2 ^ 8 ∷ []
    → l ≡ get_or bytes 1 0
    → bit_xor (get_or REMAINDERS_0 (bit_xor (get_or bytes 0 0) x) 0) (l * 2 ^ 8 % 2 ^ 16) ≡ after_byte n x
byte_step n x l bytes h k e g =
    let high : n / 2 ^ 8 % 2 ^ 8 ≡ n / 2 ^ 8 = omega arith in
    let first : get_or bytes 0 0 ≡ n / 2 ^ 8 = ap (λ l. get_or l 0 0) e ∙ high in
    let second : l ≡ n % 2 ^ 8 = g ∙ ap (λ l. get_or l 1 0) e in
    let moved_up : l * 2 ^ 8 % 2 ^ 16 ≡ n % 2 ^ 8 * 2 ^ 8 = omega arith in
    ap (λ m. bit_xor (get_or REMAINDERS_0 m 0) (l * 2 ^ 8 % 2 ^ 16)) (ap (λ m. bit_xor m x) first)
    ∙ ap (bit_xor (get_or REMAINDERS_0 (bit_xor (n / 2 ^ 8) x) 0)) moved_up
    ∙ sym (after_byte-table n x h k)
