-- The letters of a sum, and that they are the only ones.
use Rattle.std.proofs.Common.{ℕ, zero, suc, ◌≡◌, ◌≢◌, ◌-◌, ◌*◌, ◌/◌, ◌%◌, ◌^◌, ◌<◌, ◌≤◌, inl, inr, List, [], ◌∷◌, length, refl, ap, sym, ◌∙◌, subst, arith, slice_index}
use Rattle.std.specs.List.{AllByRecursion}
use Rattle.std.proofs.lemmas.Bool.{cases_eq}
use Rattle.std.proofs.lemmas.List.Elements.{recursion_from_All, All-from_recursion}
use Rattle.std.proofs.lemmas.Nat.{div-mul-add, mod-mul-add, mul-add-lt}
use Rattle.std.proofs.Math.Nat.{div-add-mod, div-lt_iff_lt-mul, pow-suc, pow-succ', pow-le-pow_right}
use Rattle.m17_callsign.specs.Callsign.{alphabet, IsLetter, AreLetters, index_of, last_letter, sum_of}
use Rattle.m17_callsign.specs.Letters.{letters_of}
use Rattle.m17_callsign.proofs.Alphabet.{IsLetter-at, index_of-at, index_of-space, index_of-letter-lt, index_of-no_space, letter_at-index_of}
use Rattle.m17_callsign.proofs.Folded.{folded, folded-nil, folded-cons, folded-is-sum}

-- the last letter, if there is one, is no space
abbrev pub EndsWell : List ℕ → Type 0
EndsWell [] = Unit {0}
EndsWell (x ∷ []) = x ≢ 32
EndsWell (x ∷ y ∷ ys) = EndsWell (y ∷ ys)

last_letter-cons : (x y : ℕ) (ys : List ℕ) → last_letter (x ∷ y ∷ ys) ≡ last_letter (y ∷ ys)
last_letter-cons x y ys =
    let one : length (x ∷ y ∷ ys) - 1 ≡ suc (length (y ∷ ys) - 1) = omega arith in
    ap (λ (k : ℕ). slice_index (x ∷ y ∷ ys) k) one

EndsWell-from_last : (x : ℕ) (xs : List ℕ) → last_letter (x ∷ xs) ≢ 32 → EndsWell (x ∷ xs)
EndsWell-from_last x [] h = h
EndsWell-from_last x (y ∷ ys) h = EndsWell-from_last y ys (λ e. h (last_letter-cons x y ys ∙ e))

last-from_EndsWell : (x : ℕ) (xs : List ℕ) → EndsWell (x ∷ xs) → last_letter (x ∷ xs) ≢ 32
last-from_EndsWell x [] h = h
last-from_EndsWell x (y ∷ ys) h = λ e. last-from_EndsWell y ys h (sym (last_letter-cons x y ys) ∙ e)

EndsWell-tail : (x : ℕ) (xs : List ℕ) → EndsWell (x ∷ xs) → EndsWell xs
EndsWell-tail x [] h = tt
EndsWell-tail x (y ∷ ys) h = h

EndsWell-cons : (x : ℕ) (xs : List ℕ) → (xs ≡ [] → x ≢ 32) → EndsWell xs → EndsWell (x ∷ xs)
EndsWell-cons x [] alone h = alone refl
EndsWell-cons x (y ∷ ys) alone h = h

-- letters as the recursion sees them
record IsWord (most : ℕ) (text : List ℕ) : Type 0 where
  short : length text ≤ most
  letters : AllByRecursion IsLetter text
  end : EndsWell text

word_of : (most : ℕ) (text : List ℕ) → AreLetters most text → IsWord most text
word_of most [] are = record { short = are.not_long; letters = recursion_from_All IsLetter [] are.letters; end = tt }
word_of most (x ∷ xs) are = record {
  short = are.not_long;
  letters = recursion_from_All IsLetter (x ∷ xs) are.letters;
  end = EndsWell-from_last x xs are.no_space_at_the_end;
}

folded-pos : (x : ℕ) (xs : List ℕ) → AllByRecursion IsLetter (x ∷ xs) → EndsWell (x ∷ xs) → 0 < folded (x ∷ xs)
folded-pos x [] letters end = let pos = index_of-no_space x letters.0 end in let fold = folded-cons x [] in omega arith
folded-pos x (y ∷ ys) letters end = let pos = folded-pos y ys letters.1 end in let fold = folded-cons x (y ∷ ys) in omega arith

folded-lt : (xs : List ℕ) → AllByRecursion IsLetter xs → folded xs < 40 ^ length xs
folded-lt [] letters = let none = folded-nil in omega arith
folded-lt (x ∷ xs) letters =
    rw (folded-cons x xs, pow-succ' 40 (length xs)) (mul-add-lt (folded xs) 40 (index_of x) (40 ^ length xs) (folded-lt xs letters.1) (index_of-letter-lt x letters.0))

pub letters_of-none : (room sum : ℕ) → sum ≡ 0 → letters_of room sum ≡ []
unfolding letters_of
letters_of-none zero sum none = refl
letters_of-none (suc room) sum none = rw none refl

letters_of-more : (room sum : ℕ) → 0 < sum → letters_of (suc room) sum ≡ slice_index alphabet (sum % 40) ∷ letters_of room (sum / 40)
unfolding letters_of
letters_of-more room sum some = grind arith

-- one more letter in front
pub letters_of-cons : (room sum x : ℕ) (xs : List ℕ) → 0 < sum → slice_index alphabet (sum % 40) ≡ x → letters_of room (sum / 40) ≡ xs → letters_of (suc room) sum ≡ x ∷ xs
letters_of-cons room sum x xs some first rest = rw (letters_of-more room sum some, first, rest) refl

-- letters are those of their sum
letters_of-folded : (room : ℕ) (xs : List ℕ) → length xs ≤ room → AllByRecursion IsLetter xs → EndsWell xs → letters_of room (folded xs) ≡ xs
letters_of-folded room [] short letters end = letters_of-none room (folded []) folded-nil
letters_of-folded zero (x ∷ xs) short letters end = absurd (omega arith)
letters_of-folded (suc room) (x ∷ xs) short letters end =
    let small = index_of-letter-lt x letters.0 in
    let fold = folded-cons x xs in
    let digit : folded (x ∷ xs) % 40 ≡ index_of x = ap (λ (n : ℕ). n % 40) fold ∙ mod-mul-add (folded xs) 40 (index_of x) small in
    let rest : folded (x ∷ xs) / 40 ≡ folded xs = ap (λ (n : ℕ). n / 40) fold ∙ div-mul-add (folded xs) 40 (index_of x) small in
    letters_of-cons room (folded (x ∷ xs)) x xs (folded-pos x xs letters end)
    (ap (λ (n : ℕ). slice_index alphabet n) digit ∙ letter_at-index_of x letters.0)
    (ap (λ (n : ℕ). letters_of room n) rest ∙ letters_of-folded room xs (omega arith) letters.1 (EndsWell-tail x xs end))

-- the letters of a sum are well spelled, and add up to it
record IsWordOf (room sum : ℕ) (text : List ℕ) : Type 0 where
  word : IsWord room text
  fold : folded text ≡ sum

no_letters : (room sum : ℕ) → sum ≡ 0 → IsWordOf room sum []
no_letters room sum none = record {
  word = record { short = omega arith; letters = tt; end = tt };
  fold = folded-nil ∙ sym none;
}

one_more : (room sum : ℕ) (xs : List ℕ) → 0 < sum → IsWordOf room (sum / 40) xs → IsWordOf (suc room) sum (slice_index alphabet (sum % 40) ∷ xs)
one_more room sum xs some rest =
    let x : ℕ = slice_index alphabet (sum % 40) in
    let index : index_of x ≡ sum % 40 = index_of-at (sum % 40) (omega arith) in
    let fold = rest.fold in
    let division = div-add-mod sum 40 in
    let cons = folded-cons x xs in
    let short = rest.word.short in
    record {
      word = record {
        short = omega arith;
        letters = (IsLetter-at (sum % 40) (omega arith), rest.word.letters);
        end = EndsWell-cons x xs
            (λ alone space.
            let none : folded xs ≡ 0 = ap folded alone ∙ folded-nil in
            let zero-index = index_of-space x space in
            omega arith)
            rest.word.end;
      };
      fold = omega arith;
    }

word_of_sum : (room sum : ℕ) → sum < 40 ^ room → IsWordOf room sum (letters_of room sum)
word_of_sum zero sum less =
    let none : sum ≡ 0 = omega arith in
    subst (λ (text : List ℕ). IsWordOf zero sum text) (sym (letters_of-none zero sum none)) (no_letters zero sum none)
word_of_sum (suc room) sum less =
    elim (cases_eq sum 0) [
      | inl none ↦ subst (λ (text : List ℕ). IsWordOf (suc room) sum text) (sym (letters_of-none (suc room) sum none)) (no_letters (suc room) sum none)
      | inr more ↦
          let bound : sum < 40 ^ room * 40 = subst (λ (b : ℕ). sum < b) (pow-suc 40 room) less in
          let left = (div-lt_iff_lt-mul {k = 40} {x = sum} {y = 40 ^ room} (omega arith)).1 bound in
          subst (λ (text : List ℕ). IsWordOf (suc room) sum text) (sym (letters_of-more room sum (omega arith)))
          (one_more room sum (letters_of room (sum / 40)) (omega arith) (word_of_sum room (sum / 40) left))
    ]

letters_from_word : (most sum : ℕ) (text : List ℕ) → 0 < sum → IsWordOf most sum text → AreLetters most text
letters_from_word most sum [] some is = absurd (let none = folded-nil in let fold = is.fold in omega arith)
letters_from_word most sum (x ∷ xs) some is = record {
  not_empty = omega arith;
  not_long = is.word.short;
  letters = All-from_recursion IsLetter (x ∷ xs) is.word.letters;
  no_space_at_the_end = last-from_EndsWell x xs is.word.end;
}

-- the letters of a sum
pub letters_of_sum : (most sum : ℕ) → 0 < sum → sum < 40 ^ most → AreLetters most (letters_of most sum) × (sum ≡ sum_of (letters_of most sum))
letters_of_sum most sum some less =
    let is = word_of_sum most sum less in
    (letters_from_word most sum (letters_of most sum) some is, sym is.fold ∙ folded-is-sum (letters_of most sum))

-- letters are those of their sum
pub letters_are : (most : ℕ) (text : List ℕ) → AreLetters most text → letters_of most (sum_of text) ≡ text
letters_are most text are =
    let word = word_of most text are in
    ap (λ (n : ℕ). letters_of most n) (sym (folded-is-sum text)) ∙ letters_of-folded most text word.short word.letters word.end

pub sum_in_range : (most : ℕ) (text : List ℕ) → AreLetters most text → (0 < sum_of text) × (sum_of text < 40 ^ most)
sum_in_range most [] are = absurd (let some = are.not_empty in omega arith)
sum_in_range most (x ∷ xs) are =
    let word = word_of most (x ∷ xs) are in
    let fold = folded-is-sum (x ∷ xs) in
    let low = folded-pos x xs word.letters word.end in
    let high = folded-lt (x ∷ xs) word.letters in
    let power = pow-le-pow_right {n = 40} (omega arith) word.short in
    (omega arith, omega arith)
