-- A number that stands at the front of a text is read back.
use Rattle.std.proofs.Common.{◌≡◌, ℕ, ◌+◌, ◌-◌, ◌*◌, ◌%◌, ◌^◌, ◌<◌, ◌≤◌, ◌⊎◌, List, length, take, get_or, ◌++◌, decimal, arith, sym, ap, ◌∙◌, subst, Bool, true, false, MatchBool, inl, inr, lit<, length-append}
use Rattle.std.specs.Char.{digit_value, IsAsciiDigit, IsNotAsciiDigit}
use Rattle.std.specs.Str.Parse.{AllDigits, IsNumeral, digits_value}
use Rattle.std.proofs.lemmas.Bool.{false≢true}
use Rattle.std.proofs.lemmas.Bool.Decides.{nat_tests}
use Rattle.std.proofs.lemmas.Fmt.{decimal_is_IsNumeral, length-decimal-le}
use Rattle.std.proofs.lemmas.Int.Digits.{digits_value-lt, digits_more, digits_value_more}
use Rattle.std.proofs.lemmas.Str.Parse.{digit_at}
use Rattle.std.proofs.lemmas.List.{get_or_append_left, get_or-append-add, get_or-take, length-take-le}
use Rattle.std.proofs.Math.Seq.{take-append_seam}
use Rattle.std.proofs.Math.Nat.{pow-le-pow_right}
use Rattle.m17_peer.specs.Reading.{EndsNumber}

-- the first i bytes are digits, five at the most, and this is their number
pub record IsRead (bytes : List ℕ) (i value : ℕ) : Type 0 where
  pub few : i ≤ 5
  pub digits : AllDigits 10 (take i bytes)
  pub value_is : value ≡ digits_value 10 (take i bytes)

-- there is no more to read
abbrev pub Stops : List ℕ → ℕ → Type 0
Stops bytes i = (i ≡ 5) ⊎ (length bytes ≤ i) ⊎ (IsAsciiDigit (get_or bytes i 0) → ⊥)

pub digit_is : (c : ℕ) → 48 ≤ c → c ≤ 57 → digit_value c ≡ c - 48
digit_is c low high = grind (arith, nat_tests)

pub small : (bytes : List ℕ) (i value : ℕ) → i ≤ length bytes → i < 5 → IsRead bytes i value → value < 10 ^ 4
small bytes i value h few r =
    let below : digits_value 10 (take i bytes) < 10 ^ length (take i bytes) = digits_value-lt 10 (take i bytes) r.digits in
    let len : length (take i bytes) ≡ i = length-take-le i bytes h in
    let bound : 10 ^ length (take i bytes) ≤ 10 ^ 4 = pow-le-pow_right {n = 10} (lit< tt) {i = length (take i bytes)} {j = 4} (omega arith) in
    omega (arith, r.value_is)

pub one_more : (bytes : List ℕ) (i value byte : ℕ) → i < length bytes → i < 5 → byte ≡ get_or bytes i 0 → 48 ≤ byte → byte ≤ 57 → IsRead bytes i value → IsRead bytes (i + 1) (value * 10 + (byte - 48))
one_more bytes i value byte h few e low high r =
    let d : digit_value (get_or bytes i 0) ≡ byte - 48 = ap digit_value (sym e) ∙ digit_is byte low high in
    record {
      few = omega arith;
      digits = digits_more 10 bytes i h r.digits (omega arith);
      value_is = ap (λ x. x * 10 + (byte - 48)) r.value_is ∙ ap (λ x. digits_value 10 (take i bytes) * 10 + x) (sym d) ∙ sym (digits_value_more 10 bytes i h);
    }

pub len_decimal : (n : ℕ) → n < 2 ^ 16 → length (decimal n) ≤ 5
len_decimal n h = length-decimal-le 5 n (lit< tt) (omega arith) (omega arith)

not_less : (bytes : List ℕ) (i n : ℕ) (rest : List ℕ) → n < 2 ^ 16 → bytes ≡ decimal n ++ rest → Stops bytes i → i < length (decimal n) → ⊥
not_less bytes i n rest h e stops less =
    let long : length (decimal n) ≤ 5 = len_decimal n h in
    let numeral : IsNumeral 10 (decimal n) × (digits_value 10 (decimal n) ≡ n) = decimal_is_IsNumeral n (omega arith) in
    let here : get_or bytes i 0 ≡ get_or (decimal n) i 0 = ap (λ x. get_or x i 0) e ∙ get_or_append_left (decimal n) rest 0 i less in
    let digit : IsAsciiDigit (get_or (decimal n) i 0) = digit_at (decimal n) i numeral.0.1 less in
    let whole : length bytes ≡ length (decimal n) + length rest = ap length e ∙ length-append (decimal n) rest in
    elim stops [ inl five ↦ omega arith | inr more ↦ elim more [ inl all ↦ omega arith | inr none ↦ none (subst IsAsciiDigit (sym here) digit) ] ]

not_more : (bytes : List ℕ) (i n : ℕ) (rest : List ℕ) → i ≤ length bytes → AllDigits 10 (take i bytes) → EndsNumber rest → bytes ≡ decimal n ++ rest → length (decimal n) < i → ⊥
not_more bytes i n rest h digits ends e more =
    let len : length (take i bytes) ≡ i = length-take-le i bytes h in
    let digit : IsAsciiDigit (get_or (take i bytes) (length (decimal n)) 0) = digit_at (take i bytes) (length (decimal n)) digits (omega arith) in
    let here : get_or (take i bytes) (length (decimal n)) 0 ≡ get_or rest 0 0 =
    get_or-take i bytes (length (decimal n)) 0 more ∙ ap (λ x. get_or x (length (decimal n)) 0) e ∙ ap (λ x. get_or (decimal n ++ rest) x 0) (omega arith) ∙ get_or-append-add (decimal n) rest 0 0 in
    ends (subst IsAsciiDigit here digit)

pub number_read : (bytes : List ℕ) (i value n : ℕ) (rest : List ℕ) → i ≤ length bytes → IsRead bytes i value → Stops bytes i → n < 2 ^ 16 → EndsNumber rest → bytes ≡ decimal n ++ rest → (value % 2 ^ 16 ≡ n) × (i ≡ length (decimal n))
number_read bytes i value n rest h r stops fits ends e =
    let low : i < length (decimal n) → ⊥ = not_less bytes i n rest fits e stops in
    let high : length (decimal n) < i → ⊥ = not_more bytes i n rest h r.digits ends e in
    let len : i ≡ length (decimal n) = omega arith in
    let front : take i bytes ≡ decimal n = ap (λ x. take x bytes) len ∙ ap (λ x. take (length (decimal n)) x) e ∙ take-append_seam (decimal n) rest in
    let is : value ≡ n = r.value_is ∙ ap (digits_value 10) front ∙ (decimal_is_IsNumeral n (omega arith)).1 in
    (omega arith, len)

pub is_digit : (r : Bool) (c : ℕ) → r ≡ true → MatchBool r (IsAsciiDigit c) (IsNotAsciiDigit c) → IsAsciiDigit c
is_digit true c e h = h
is_digit false c e h = absurd (false≢true e)

pub no_digit : (r : Bool) (c : ℕ) → r ≡ false → MatchBool r (IsAsciiDigit c) (IsNotAsciiDigit c) → IsAsciiDigit c → ⊥
no_digit true c e h = absurd (false≢true (sym e))
no_digit false c e h = λ digit. omega arith
