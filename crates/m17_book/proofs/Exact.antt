-- A reader that is right answers each value and each refusal of a form that is exact.
use Rattle.std.proofs.Common.{◌≡◌, ◌⊎◌, ℕ, List, Result, Ok, Err, IfOk, IfErr, MatchResult, inl, inr}
use Rattle.m17_book.specs.Answers.{IsOutside}
use Rattle.m17_book.specs.declared.refusal.FormRefusal.{FormRefusal}

module _ {U Value : Type 0} (Has : List ℕ → Value → Type 0) (Refuses : List ℕ → FormRefusal → Type 0) (Left : List ℕ → Type 0) (items : U → Value)
    (not_both : (bytes : List ℕ) (value : Value) (refusal : FormRefusal) → Has bytes value → Refuses bytes refusal → ⊥) where
  or_outside : (bytes : List ℕ) (value : Value) (refusal : FormRefusal) → Has bytes value → IsOutside refusal ⊎ Refuses bytes refusal → IsOutside refusal
  or_outside bytes value refusal h (inl outside) = outside
  or_outside bytes value refusal h (inr refused) = absurd (not_both bytes value refusal h refused)

  pub each_value : ((bytes : List ℕ) (a b : Value) → Has bytes a → Has bytes b → a ≡ b) → (result : Result U FormRefusal)
      → IfOk result (λ found. (bytes : List ℕ) → Left bytes → Has bytes (items found))
      → IfErr result (λ refusal. (bytes : List ℕ) → Left bytes → IsOutside refusal ⊎ Refuses bytes refusal)
      → (bytes : List ℕ) (value : Value) → Left bytes → Has bytes value → MatchResult result (λ found. items found ≡ value) IsOutside
  each_value one (Ok found) ok err bytes value left h = one bytes (items found) value (ok bytes left) h
  each_value one (Err refusal) ok err bytes value left h = or_outside bytes value refusal h (err bytes left)

  or_same : ((bytes : List ℕ) (a b : FormRefusal) → Refuses bytes a → Refuses bytes b → a ≡ b) → (bytes : List ℕ) (told refusal : FormRefusal)
      → Refuses bytes refusal → IsOutside told ⊎ Refuses bytes told → IsOutside told ⊎ (told ≡ refusal)
  or_same one bytes told refusal h (inl outside) = inl outside
  or_same one bytes told refusal h (inr refused) = inr (one bytes told refusal refused h)

  pub each_refusal : ((bytes : List ℕ) (a b : FormRefusal) → Refuses bytes a → Refuses bytes b → a ≡ b) → (result : Result U FormRefusal)
      → IfOk result (λ found. (bytes : List ℕ) → Left bytes → Has bytes (items found))
      → IfErr result (λ refusal. (bytes : List ℕ) → Left bytes → IsOutside refusal ⊎ Refuses bytes refusal)
      → (bytes : List ℕ) (refusal : FormRefusal) → Left bytes → Refuses bytes refusal
      → MatchResult result (λ _. ⊥) (λ told. IsOutside told ⊎ (told ≡ refusal))
  each_refusal one (Ok found) ok err bytes refusal left h = not_both bytes (items found) refusal (ok bytes left) h
  each_refusal one (Err told) ok err bytes refusal left h = or_same one bytes told refusal h (err bytes left)

-- where there is a value the refusal is one that the bytes do not decide
pub outside_of : (refusal : FormRefusal) (Refused : Type 0) → (Refused → ⊥) → IsOutside refusal ⊎ Refused → IsOutside refusal
outside_of refusal Refused none (inl outside) = outside
outside_of refusal Refused none (inr refused) = absurd (none refused)

-- where there is a refusal, it is told, or one that the bytes do not decide
pub outside_or_same : (Refuses : FormRefusal → Type 0) → ((a b : FormRefusal) → Refuses a → Refuses b → a ≡ b) → (told refusal : FormRefusal) → Refuses refusal
    → IsOutside told ⊎ Refuses told → IsOutside told ⊎ (told ≡ refusal)
outside_or_same Refuses one told refusal h (inl outside) = inl outside
outside_or_same Refuses one told refusal h (inr refused) = inr (one told refusal refused h)
