-- Bytes read value by value, up to their end, a flaw, or as many values as there may be.
use Rattle.std.proofs.Common.{◌≡◌, ◌⊎◌, ℕ, zero, suc, ◌<◌, ◌≤◌, ◌^◌, List, [], ◌∷◌, ◌++◌, length, take, drop, inl, inr, refl, sym, ap, ◌∙◌, arith, append_assoc}
use Rattle.std.proofs.lemmas.Bool.{cases_lt}
use Rattle.std.proofs.lemmas.List.{take-append-drop, nil_from_length}
use Rattle.std.proofs.lemmas.List.Elements.{All-drop}
use Rattle.m17_fields.specs.Fields.{IsBytes}
use Rattle.m17_book.specs.Limits.{SpellsEach}
use Rattle.m17_book.specs.Parsed.{BeginsWith}
use Rattle.m17_book.specs.declared.refusal.Flaw.{Flaw}

-- what stops a reading of n values at the most
pub data Stop {Value : Type 0} (Flawed : List ℕ → Flaw → Type 0) (n : ℕ) (values : List Value) (rest : List ℕ) : Type 0 where
  at_end : rest ≡ [] → Stop Flawed n values rest
  too_many : length values ≡ n → 0 < length rest → Stop Flawed n values rest
  wrong : (flaw : Flaw) → length values < n → Flawed rest flaw → Stop Flawed n values rest

pub record Reading {Value : Type 0} (Spells : Value → List ℕ → Type 0) (Flawed : List ℕ → Flaw → Type 0) (n : ℕ) (b : List ℕ) : Type 0 where
  pub values : List Value
  pub front : List ℕ
  pub rest : List ℕ
  pub split : b ≡ front ++ rest
  pub spelled : SpellsEach Spells values front
  pub few : length values ≤ n
  pub stop : Stop Flawed n values rest

module _ {Value : Type 0} (Spells : Value → List ℕ → Type 0) (Flawed : List ℕ → Flaw → Type 0)
    (reads_one : (b : List ℕ) → IsBytes b → 0 < length b → ((value : Value) × (size : ℕ) × BeginsWith Spells b value size) ⊎ ((flaw : Flaw) × Flawed b flaw)) where
  nothing : (n : ℕ) (b : List ℕ) → Stop {Value = Value} Flawed n [] b → Reading Spells Flawed n b
  nothing n b stop = record { values = []; front = []; rest = b; split = refl; spelled = refl; few = omega arith; stop = stop }

  stop_later : (n : ℕ) (value : Value) (values : List Value) (rest : List ℕ) → Stop Flawed n values rest → Stop Flawed (suc n) (value ∷ values) rest
  stop_later n value values rest (at_end e) = at_end e
  stop_later n value values rest (too_many all more) = too_many (omega arith) more
  stop_later n value values rest (wrong flaw low bad) = wrong flaw (omega arith) bad

  and_then : (n : ℕ) (b : List ℕ) (value : Value) (size : ℕ) → BeginsWith Spells b value size → Reading Spells Flawed n (drop size b)
      → Reading Spells Flawed (suc n) b
  and_then n b value size begins r =
      record {
        values = value ∷ r.values;
        front = take size b ++ r.front;
        rest = r.rest;
        split = sym (take-append-drop size b) ∙ ap (λ xs. take size b ++ xs) r.split ∙ sym (append_assoc (take size b) r.front r.rest);
        spelled = (take size b, r.front, begins.spelled, r.spelled, refl);
        few = omega (arith, r.few);
        stop = stop_later n value r.values r.rest r.stop;
      }

  pub reads_all : (n : ℕ) (b : List ℕ) → IsBytes b → Reading Spells Flawed n b
  reads_all zero b bytes = elim (cases_lt 0 (length b)) [
    | inl some ↦ nothing zero b (too_many refl some)
    | inr none ↦ nothing zero b (at_end (nil_from_length b (omega arith)))
  ]
  reads_all (suc n) b bytes = elim (cases_lt 0 (length b)) [
    | inl some ↦ elim (reads_one b bytes some) [
      | inl found ↦ and_then n b found.0 found.1 found.2 (reads_all n (drop found.1 b) (All-drop (λ byte. byte < 2 ^ 8) found.1 b bytes))
      | inr bad ↦ nothing (suc n) b (wrong bad.0 (omega arith) bad.1)
    ]
    | inr none ↦ nothing (suc n) b (at_end (nil_from_length b (omega arith)))
  ]
