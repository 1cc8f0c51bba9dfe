-- One letter more of a sum at the end of a text.
use Rattle.std.proofs.Common.{ℕ, suc, ◌≡◌, ◌-◌, ◌*◌, ◌/◌, ◌%◌, ◌^◌, ◌<◌, inl, inr, List, [], ◌∷◌, ◌++◌, length, refl, ap, sym, ◌∙◌, subst, arith, slice_index}
use Rattle.std.proofs.lemmas.Bool.{cases_eq}
use Rattle.std.proofs.lemmas.List.{length_push}
use Rattle.std.proofs.lemmas.List.{append_assoc, append-nil}
use Rattle.std.proofs.Math.Nat.{div-lt_iff_lt-mul, pow-suc}
use Rattle.m17_callsign.specs.Callsign.{alphabet, IsLetter, index_of}
use Rattle.m17_callsign.specs.Letters.{letters_of}
use Rattle.m17_callsign.proofs.Alphabet.{letter_at-index_of}
use Rattle.m17_callsign.proofs.Unique.{letters_of-none, letters_of-cons}

-- while a rest is left there is room
pub room_left : (text : List ℕ) (rest : ℕ) → 0 < rest → rest < 40 ^ (9 - length text) → length text < 9
room_left text rest some left = elim (cases_eq (9 - length text) 0) [
  | inl full ↦ absurd (let none : 40 ^ (9 - length text) ≡ 1 = ap (λ (n : ℕ). 40 ^ n) full in omega arith)
  | inr room ↦ omega arith
]

room_less : (text : List ℕ) (rest x : ℕ) → 0 < rest → rest < 40 ^ (9 - length text) → 9 - length text ≡ suc (9 - length (text ++ x ∷ []))
room_less text rest x some left =
    let room = room_left text rest some left in
    let long = length_push text x in
    omega arith

pub left_less : (text : List ℕ) (rest x : ℕ) → 0 < rest → rest < 40 ^ (9 - length text) → rest / 40 < 40 ^ (9 - length (text ++ x ∷ []))
left_less text rest x some left =
    let less = room_less text rest x some left in
    let bound : rest < 40 ^ (9 - length (text ++ x ∷ [])) * 40 =
    subst (λ (b : ℕ). rest < b) (ap (λ (n : ℕ). 40 ^ n) less ∙ pow-suc 40 (9 - length (text ++ x ∷ []))) left in
    (div-lt_iff_lt-mul {k = 40} {x = rest} {y = 40 ^ (9 - length (text ++ x ∷ []))} (omega arith)).1 bound

-- the letter that is pushed is the first of the rest's
pub same_text : (text : List ℕ) (rest x : ℕ) → 0 < rest → rest < 40 ^ (9 - length text) → IsLetter x → index_of x ≡ rest % 40
    → (text ++ x ∷ []) ++ letters_of (9 - length (text ++ x ∷ [])) (rest / 40) ≡ text ++ letters_of (9 - length text) rest
same_text text rest x some left letter index =
    let less = room_less text rest x some left in
    let tail : List ℕ = letters_of (9 - length (text ++ x ∷ [])) (rest / 40) in
    let first = ap (λ (i : ℕ). slice_index alphabet i) (sym index) ∙ letter_at-index_of x letter in
    let cons : letters_of (suc (9 - length (text ++ x ∷ []))) rest ≡ x ∷ tail = letters_of-cons (9 - length (text ++ x ∷ [])) rest x tail some first refl in
    append_assoc text (x ∷ []) tail ∙ ap (λ (xs : List ℕ). text ++ xs) (sym cons ∙ ap (λ (n : ℕ). letters_of n rest) (sym less))

pub whole_text : (text : List ℕ) (rest : ℕ) → rest ≡ 0 → text ++ letters_of (9 - length text) rest ≡ text
whole_text text rest none = ap (λ (xs : List ℕ). text ++ xs) (letters_of-none (9 - length text) rest none) ∙ append-nil text
