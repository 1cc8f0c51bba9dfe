-- Bytes that are one record, and nothing else.
use Rattle.std.proofs.Common.{◌≡◌, ◌↔◌, ℕ, List, [], length, take, drop, None, Some, sym, ap, subst, ◌∙◌, arith}
use Rattle.std.proofs.lemmas.List.{append-nil, take-append-drop, take_all, length-take-le}
use Rattle.m17_book.specs.Flaws.{RecordFlaw}
use Rattle.m17_book.specs.Laws.{IsClear}
use Rattle.m17_book.specs.Parsed.{BeginsWith}
use Rattle.m17_book.specs.Records.{SpellsRecord}
use Rattle.m17_book.specs.declared.record.Record.{Record}
use Rattle.m17_book.specs.declared.refusal.Flaw.{Flaw}
use Rattle.m17_book.specs.declared.version.Version.TheVariants.{Two}

some_is : (a b : Record) → Some a ≡ Some b → a ≡ b
some_is a b e = cc

none_some : (a : Record) (R : Type 0) → None ≡ Some a → R
none_some a R e = absurd (cc)

module _ (clear : IsClear (SpellsRecord Two) (RecordFlaw Two)) (b : List ℕ) where
  -- a record that the bytes spell is the one that they begin with
  same : (found one : Record) (size : ℕ) → BeginsWith (SpellsRecord Two) b found size → SpellsRecord Two one b → (found ≡ one) × (take size b ≡ b)
  same found one size begins spells =
      clear.one found one (take size b) b (drop size b) [] begins.spelled spells (take-append-drop size b ∙ sym (append-nil b))

  pub whole : (found : Record) (size : ℕ) → BeginsWith (SpellsRecord Two) b found size → size ≡ length b → (one : Record) → (Some found ≡ Some one) ↔ SpellsRecord Two one b
  whole found size begins all one = (
    λ e. subst (λ (r : Record). SpellsRecord Two r b) (some_is found one e)
        (subst (λ (xs : List ℕ). SpellsRecord Two found xs) (take_all size b (omega (arith, all))) begins.spelled),
    λ spells. ap Some (same found one size begins spells).0,
  )

  pub longer : (found : Record) (size : ℕ) → BeginsWith (SpellsRecord Two) b found size → (size ≡ length b → ⊥) → (one : Record) → (None ≡ Some one) ↔ SpellsRecord Two one b
  longer found size begins more one = (
    λ e. none_some one (SpellsRecord Two one b) e,
    λ spells. absurd (more (sym (length-take-le size b begins.within) ∙ ap length (same found one size begins spells).1)),
  )

  pub flawed : (flaw : Flaw) → RecordFlaw Two b flaw → (one : Record) → (None ≡ Some one) ↔ SpellsRecord Two one b
  flawed flaw bad one = (
    λ e. none_some one (SpellsRecord Two one b) e,
    λ spells. absurd (clear.not_both one b [] flaw spells (subst (λ (xs : List ℕ). RecordFlaw Two xs flaw) (sym (append-nil b)) bad)),
  )

  pub empty : length b ≡ 0 → (one : Record) → (None ≡ Some one) ↔ SpellsRecord Two one b
  empty none one = (
    λ e. none_some one (SpellsRecord Two one b) e,
    λ spells. absurd (omega (arith, none, clear.some one b spells)),
  )
