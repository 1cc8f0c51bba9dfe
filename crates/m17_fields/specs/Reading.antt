-- What bytes are to a reader that is exact: one value, or one refusal, and not both.
use Rattle.std.specs.Prelude.{◌≡◌, ◌⊎◌, ℕ, List}

module _ {Value Reason : Type 0} where
  -- The bytes spell this value, no other one, and are not refused.
  pub record IsOnlyValue (spells : Value → List ℕ → Type 0) (refuses : List ℕ → Reason → Type 0)
      (bytes : List ℕ) (value : Value) : Type 0 where
    pub spelled : spells value bytes
    pub no_other : (other : Value) → spells other bytes → other ≡ value
    pub no_refusal : (reason : Reason) → refuses bytes reason → ⊥

  -- The bytes are refused for this reason, no other one, and spell no value.
  pub record IsOnlyRefusal (spells : Value → List ℕ → Type 0) (refuses : List ℕ → Reason → Type 0)
      (bytes : List ℕ) (reason : Reason) : Type 0 where
    pub refused : refuses bytes reason
    pub no_other : (other : Reason) → refuses bytes other → other ≡ reason
    pub no_value : (value : Value) → spells value bytes → ⊥

  abbrev pub HasOneReading :
      (Value → List ℕ → Type 0) → (List ℕ → Reason → Type 0) → List ℕ → Type 0
  HasOneReading spells refuses bytes =
      ((value : Value) × IsOnlyValue spells refuses bytes value)
      ⊎ ((reason : Reason) × IsOnlyRefusal spells refuses bytes reason)
