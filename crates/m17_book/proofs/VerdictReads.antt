-- The 12 bytes of a verdict's value are those of a verdict, or of none.
use Rattle.std.proofs.Common.{◌≡◌, ◌⊎◌, ℕ, ◌+◌, ◌<◌, ◌≤◌, ◌^◌, List, ◌++◌, length, take, drop, inl, inr, refl, sym, ap, subst, ◌∙◌, arith}
use Rattle.std.proofs.lemmas.Bool.{cases_lt, cases_eq}
use Rattle.std.proofs.lemmas.List.{take-append-drop, take_all, length-drop, take_at}
use Rattle.m17_lists.proofs.Tests.{same_bytes_or_others}
use Rattle.m17_lists.proofs.Parts.{part_is_as_long}
use Rattle.m17_book.proofs.Entry.{part_bytes}
use Rattle.m17_fields.specs.Fields.{be_16, be_32, be_64, IsBytes}
use Rattle.m17_floor.specs.declared.verdict.Verdict.{Verdict}
use Rattle.m17_floor.specs.declared.verdict.Verdict.TheVariants.{Opened, Continued, Busy, Repeat, Late, AfterEnd, TimedOut, NotMember, ListenOnly}
use Rattle.m17_book.specs.Records.{FitsVerdict, value_bytes, verdict_code, zeros_10, zeros_12}
use Rattle.m17_book.specs.Parsed.{IsValueOf}
use Rattle.m17_book.proofs.RecordClear.{FieldLaws, holder_of, verdict_at, with_code}
use Rattle.m17_book.proofs.Values.{no_late}

-- the bytes are those of a verdict with this code, or of none
abbrev pub ReadsValue : ℕ → List ℕ → Type 0
ReadsValue code value = ((verdict : Verdict) × IsValueOf code value verdict) ⊎ ((verdict : Verdict) → IsValueOf code value verdict → ⊥)

plain_value : (v : Verdict) → (verdict_code v ≡ 3 → ⊥) → (verdict_code v ≡ 5 → ⊥) → value_bytes v ≡ zeros_12
plain_value Opened b l = refl
plain_value Continued b l = refl
plain_value (Busy holder) b l = absurd (b refl)
plain_value Repeat b l = refl
plain_value (Late last) b l = absurd (l refl)
plain_value AfterEnd b l = refl
plain_value TimedOut b l = refl
plain_value NotMember b l = refl
plain_value ListenOnly b l = refl

-- a verdict that has no value
plain : (code : ℕ) (value : List ℕ) (v : Verdict) → code ≡ verdict_code v → (code ≡ 3 → ⊥) → (code ≡ 5 → ⊥) → FitsVerdict v → ReadsValue code value
plain code value v is b l fits = elim (same_bytes_or_others value zeros_12) [
  | inl zeros ↦ inl (v, (fits, sym is, plain_value v (λ e. b (is ∙ e)) (λ e. l (is ∙ e)) ∙ sym zeros))
  | inr other ↦ inr (λ w h. other (sym h.2 ∙ plain_value w (λ e. b (sym h.1 ∙ e)) (λ e. l (sym h.1 ∙ e))))
]

-- two parts of twelve bytes
two_parts : (n k : ℕ) (value : List ℕ) → length value ≡ n + k → take n value ++ take k (drop n value) ≡ value
two_parts n k value long = ap (λ xs. take n value ++ xs) (take_all k (drop n value) (omega (arith, length-drop n value))) ∙ take-append-drop n value

no_busy : FieldLaws → (value : List ℕ) (place : ℕ) → place < 2 ^ 32 → be_32 place ≡ take 4 value → 256 ≤ place → (v : Verdict) → IsValueOf 3 value v → ⊥
unfolding verdict_at
no_busy law value place fits is high v h =
    let busy : Busy (holder_of v) ≡ v = with_code v 3 (sym h.1) in
    let low = subst FitsVerdict (sym busy) h.0 in
    let bytes = ap value_bytes busy ∙ h.2 in
    let four : be_32 (holder_of v).place ≡ take 4 value = sym (take_at (be_32 (holder_of v).place) (be_64 (holder_of v).generation) 4 refl) ∙ ap (take 4) bytes in
    omega (arith, law.of_32.one_number (holder_of v).place place (omega (arith, low.0)) fits (four ∙ sym is), low.0, high)

reads_busy : FieldLaws → (value : List ℕ) → IsBytes value → length value ≡ 12 → ReadsValue 3 value
reads_busy law value bytes long =
    let place = law.of_32.each_bytes (take 4 (drop 0 value)) (part_is_as_long 0 4 value (omega arith)) (part_bytes 0 4 value bytes) in
    let generation = law.of_64.each_bytes (take 8 (drop 4 value)) (part_is_as_long 4 8 value (omega arith)) (part_bytes 4 8 value bytes) in
    elim (cases_lt place.0 256) [
      | inl low ↦ inl (
        Busy (record { place = place.0; generation = generation.0 }),
        (
          (low, generation.1),
          refl,
          ap (λ xs. xs ++ be_64 generation.0) place.2 ∙ ap (λ xs. take 4 value ++ xs) generation.2 ∙ two_parts 4 8 value long,
        ),
      )
      | inr high ↦ inr (no_busy law value place.0 place.1 place.2 high)
    ]

reads_late : FieldLaws → (value : List ℕ) → IsBytes value → length value ≡ 12 → ReadsValue 5 value
reads_late law value bytes long =
    let last = law.of_16.each_bytes (take 2 (drop 10 value)) (part_is_as_long 10 2 value (omega arith)) (part_bytes 10 2 value bytes) in
    elim (same_bytes_or_others (take 10 value) zeros_10) [
      | inr other ↦ inr (no_late law.of_16 value last.0 last.1 last.2 (λ zeros. absurd (other zeros)))
      | inl zeros ↦ elim (cases_lt last.0 32768) [
        | inr high ↦ inr (no_late law.of_16 value last.0 last.1 last.2 (λ _. high))
        | inl low ↦ inl (Late last.0, (low, refl, ap (λ xs. xs ++ be_16 last.0) (sym zeros) ∙ ap (λ xs. take 10 value ++ xs) last.2 ∙ two_parts 10 2 value long))
      ]
    ]

at_code : (code k : ℕ) (value : List ℕ) → code ≡ k → ReadsValue k value → ReadsValue code value
at_code code k value e h = subst (λ (n : ℕ). ReadsValue n value) (sym e) h

pub reads_value : FieldLaws → (code : ℕ) (value : List ℕ) → 1 ≤ code → code ≤ 9 → IsBytes value → length value ≡ 12 → ReadsValue code value
reads_value law code value low high bytes long = elim (cases_eq code 1) [
  | inl e ↦ plain code value Opened e (λ b. omega arith) (λ b. omega arith) tt
  | inr n₁ ↦ elim (cases_eq code 2) [
    | inl e ↦ plain code value Continued e (λ b. omega arith) (λ b. omega arith) tt
    | inr n₂ ↦ elim (cases_eq code 3) [
      | inl e ↦ at_code code 3 value e (reads_busy law value bytes long)
      | inr n₃ ↦ elim (cases_eq code 4) [
        | inl e ↦ plain code value Repeat e (λ b. omega arith) (λ b. omega arith) tt
        | inr n₄ ↦ elim (cases_eq code 5) [
          | inl e ↦ at_code code 5 value e (reads_late law value bytes long)
          | inr n₅ ↦ elim (cases_eq code 6) [
            | inl e ↦ plain code value AfterEnd e (λ b. omega arith) (λ b. omega arith) tt
            | inr n₆ ↦ elim (cases_eq code 7) [
              | inl e ↦ plain code value NotMember e (λ b. omega arith) (λ b. omega arith) tt
              | inr n₇ ↦ elim (cases_eq code 8) [
                | inl e ↦ plain code value ListenOnly e n₃ n₅ tt
                | inr n₈ ↦ plain code value TimedOut (omega (arith, n₁, n₂, n₃, n₄, n₅, n₆, n₇, n₈, low, high)) n₃ n₅ tt
              ]
            ]
          ]
        ]
      ]
    ]
  ]
]
