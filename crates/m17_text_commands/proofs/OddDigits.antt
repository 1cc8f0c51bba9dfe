-- What decoding into half as much room says where it finds an odd number of digits.
use Rattle.std.proofs.Common.{◌≡◌, ℕ, ◌/◌, ◌%◌, List, length, Result, Ok, Err, refl, arith, inl, inr}
use Rattle.std.specs.Prelude.{MatchResult}
use Rattle.std.proofs.lemmas.Bool.{cases_eq}
use Rattle.hex.specs.Hex.{decode_of, decode_sized}
use Rattle.hex.specs.declared.error.FromHexError.{FromHexError}
use Rattle.hex.specs.declared.error.FromHexError.TheVariants.{OddLength}
use Rattle.hex.proofs.HexLemmas.{decode_of-err, decode_sized-twice}

-- what a decoding answers, and what it writes
abbrev pub Decodes : Result (List ℕ) FromHexError → Result Unit FromHexError → List ℕ → Type 0
Decodes decoded answer out = MatchResult decoded (λ bytes. (answer ≡ Ok tt) × (out ≡ bytes)) (λ e. answer ≡ Err e)

not_odd : (text : List ℕ) (decoded : Result (List ℕ) FromHexError) (answer : Result Unit FromHexError) (out : List ℕ)
    → decode_of text ≡ decoded → length text % 2 ≡ 0 → Decodes decoded answer out → answer ≡ Err OddLength → ⊥
not_odd text (Ok bytes) answer out same even decodes is = let ok = decodes.0 in cc
not_odd text (Err e) answer out same even decodes is =
    elim (decode_of-err text e same) [
      | inl odd ↦ omega (arith, odd.0)
      | inr digit ↦ let first = digit.1 in cc
    ]

pub odd_length : (text : List ℕ) (room : ℕ) (answer : Result Unit FromHexError) (out : List ℕ) → length text / 2 ≡ room
    → Decodes (decode_sized text room) answer out → answer ≡ Err OddLength → length text % 2 ≡ 1
odd_length text room answer out half decodes is =
    elim (cases_eq (length text % 2) 1) [
      | inl odd ↦ odd
      | inr even ↦
          let zero : length text % 2 ≡ 0 = omega arith in
          let same : decode_sized text room ≡ decode_of text = decode_sized-twice text room (omega arith) in
          absurd (not_odd text (decode_of text) answer out refl zero (rw same at decodes) is)
    ]
