-- Traces and books have one reading each, and each byte list has one.
use Rattle.std.specs.Prelude.{◌≡◌, ℕ, ◌<◌, List, [], ◌++◌, length}
use Rattle.m17_fields.specs.Fields.{IsBytes}
use Rattle.m17_fields.specs.Reading.{HasOneReading}
use Rattle.m17_book.specs.Book.{IsTrace, RefusesTrace, IsBook, RefusesBook, HasBookForm, LacksBookForm}
use Rattle.m17_book.specs.declared.head.Head.{Head}
use Rattle.m17_book.specs.declared.version.Version.{Version}
use Rattle.m17_book.specs.declared.record.Record.{Record}
use Rattle.m17_book.specs.declared.refusal.Flaw.{Flaw}
use Rattle.m17_book.specs.declared.refusal.FormRefusal.{FormRefusal}

-- Bytes stand for one value at most, or are refused for one reason at most, and not both; and each list of bytes is
-- one or the other.
pub record IsExactForm {Value : Type 0} (Has : List ℕ → Value → Type 0)
    (Refuses : List ℕ → FormRefusal → Type 0) : Type 0 where
  pub one_value : (bytes : List ℕ) (a b : Value) → Has bytes a → Has bytes b → a ≡ b
  pub one_refusal : (bytes : List ℕ) (a b : FormRefusal) → Refuses bytes a → Refuses bytes b → a ≡ b
  pub not_both : (bytes : List ℕ) (value : Value) (refusal : FormRefusal)
      → Has bytes value → Refuses bytes refusal → ⊥
  pub one_reading : (bytes : List ℕ) → IsBytes bytes
      → HasOneReading (λ value b. Has b value) Refuses bytes

-- Why forms of values one after another are exact: bytes begin with one value and one spelling of it at most, never
-- with both a value and a flaw, and they have one flaw at most. No public clause of a function cites this.
pub record IsClear {Value : Type 0} (Spells : Value → List ℕ → Type 0)
    (Flawed : List ℕ → Flaw → Type 0) : Type 0 where
  pub one : (v w : Value) (a b x y : List ℕ) → Spells v a → Spells w b
      → a ++ x ≡ b ++ y → (v ≡ w) × (a ≡ b)
  pub some : (v : Value) (a : List ℕ) → Spells v a → 0 < length a
  pub not_both : (v : Value) (a x : List ℕ) (flaw : Flaw) → Spells v a
      → Flawed (a ++ x) flaw → ⊥
  pub one_flaw : (b : List ℕ) (f g : Flaw) → Flawed b f → Flawed b g → f ≡ g
  pub no_flaw : (f : Flaw) → Flawed [] f → ⊥

-- what a book stands for: what its header says, and its records
pub record BookKept : Type 0 where
  pub header : Head
  pub records : List Record

abbrev pub TracesAreExact : Type 0
TracesAreExact = IsExactForm IsTrace RefusesTrace

-- books of a version
abbrev pub BooksOfAreExact : Version → Type 0
BooksOfAreExact version =
    IsExactForm {Value = BookKept} (λ bytes kept. IsBook version bytes kept.header kept.records)
    (RefusesBook version)

-- of both versions, each for itself
abbrev pub BooksAreExact : Type 0
BooksAreExact = (version : Version) → BooksOfAreExact version

-- the same of books of whatever size, as a reader has them that gives one record after another
abbrev pub BookFormsAreExact : Type 0
BookFormsAreExact = (version : Version) → IsExactForm {Value = BookKept}
    (λ bytes kept. HasBookForm version bytes kept.header kept.records) (LacksBookForm version)
