-- Bytes have one flaw at most: the first field that is bad, where the fields do not overlap.
use Rattle.std.proofs.Common.{◌≡◌, ◌⊎◌, ℕ, ◌+◌, ◌<◌, ◌≤◌, List, inl, inr, refl, sym, ap, subst, ◌∙◌, arith}
use Rattle.std.proofs.lemmas.Bool.{cases_lt}
use Rattle.m17_book.specs.Limits.{IsKind}
use Rattle.m17_book.specs.Flaws.{kind_of, HasFlaw, IsFirstBad, RecordFlaw, RecordField, Link, Place, Listen, Callsign, Reason, Verdict_, Value, Packet, IsInRecord, record_field_at, record_field_size, IsAllowedInRecord, IsShortRecord, EntryFlaw, IsInEntry, entry_field_at, entry_field_size, IsAllowedInEntry, IsShortEntry}
use Rattle.m17_book.specs.declared.refusal.Flaw.{Flaw}
use Rattle.m17_book.specs.declared.refusal.Flaw.TheVariants as flaws
use Rattle.m17_book.specs.declared.version.Version.{Version}

module _ {Field : Type 0} (IsIn : Field → List ℕ → Type 0) (at_of size_of : Field → ℕ) (IsAllowed : Field → List ℕ → Type 0) (IsShort : List ℕ → Type 0)
    (apart : (f g : Field) → at_of f < at_of g → at_of f + size_of f ≤ at_of g) where
  abbrev Bad : List ℕ → Field → Type 0
  Bad b f = IsFirstBad IsIn at_of size_of IsAllowed IsShort b f

  not_before : (b : List ℕ) (f g : Field) → Bad b f → Bad b g → at_of f < at_of g → ⊥
  not_before b f g h k low = h.bad (k.before f h.is_in (apart f g low))

  same_place : (b : List ℕ) (f g : Field) → Bad b f → Bad b g → at_of f ≡ at_of g
  same_place b f g h k = elim (cases_lt (at_of f) (at_of g)) [
    | inl low ↦ absurd (not_before b f g h k low)
    | inr le ↦ elim (cases_lt (at_of g) (at_of f)) [ inl low ↦ absurd (not_before b g f k h low) | inr ge ↦ omega arith ]
  ]

  cut_or_field : (b : List ℕ) (k : ℕ) → HasFlaw IsIn at_of size_of IsAllowed IsShort b flaws.Cut → HasFlaw IsIn at_of size_of IsAllowed IsShort b (flaws.Field k) → ⊥
  cut_or_field b k c h = h.2.bad (c.3 h.1 h.2.is_in h.2.whole)

  kind_alone : (b : List ℕ) (byte : ℕ) → byte ≡ kind_of b → (IsKind byte → ⊥) → IsKind (kind_of b) → ⊥
  kind_alone b byte e bad good = bad (subst IsKind (sym e) good)

  pub one_flaw : (b : List ℕ) (f g : Flaw) → HasFlaw IsIn at_of size_of IsAllowed IsShort b f → HasFlaw IsIn at_of size_of IsAllowed IsShort b g → f ≡ g
  one_flaw b flaws.Cut flaws.Cut h k = refl
  one_flaw b flaws.Cut (flaws.Kind byte) h k = absurd (kind_alone b byte k.1 k.2 h.1)
  one_flaw b flaws.Cut (flaws.Field n) h k = absurd (cut_or_field b n h k)
  one_flaw b (flaws.Kind byte) flaws.Cut h k = absurd (kind_alone b byte h.1 h.2 k.1)
  one_flaw b (flaws.Kind byte) (flaws.Kind other) h k = ap flaws.Kind (h.1 ∙ sym k.1)
  one_flaw b (flaws.Kind byte) (flaws.Field n) h k = absurd (kind_alone b byte h.1 h.2 k.0)
  one_flaw b (flaws.Field m) flaws.Cut h k = absurd (cut_or_field b m k h)
  one_flaw b (flaws.Field m) (flaws.Kind byte) h k = absurd (kind_alone b byte k.1 k.2 h.0)
  one_flaw b (flaws.Field m) (flaws.Field n) h k = ap flaws.Field (h.3 ∙ same_place b h.1 k.1 h.2 k.2 ∙ sym k.3)

pub one_entry_flaw : (b : List ℕ) (f g : Flaw) → EntryFlaw b f → EntryFlaw b g → f ≡ g
one_entry_flaw = one_flaw IsInEntry entry_field_at entry_field_size IsAllowedInEntry IsShortEntry (λ f g low. omega arith)

-- where each field of a record begins, and that it ends before the next place where one does
Ends : RecordField → Type 0
Ends f = ((record_field_at f ≡ 1) × (record_field_size f ≤ 17)) ⊎ ((record_field_at f ≡ 18) × (record_field_size f ≤ 12))
    ⊎ ((record_field_at f ≡ 30) × (record_field_size f ≤ 1)) ⊎ ((record_field_at f ≡ 31) × (record_field_size f ≤ 12)) ⊎ (record_field_at f ≡ 43)

ends : (f : RecordField) → Ends f
unfolding Ends
ends Link = inl (refl, omega arith)
ends Place = inr (inl (refl, omega arith))
ends Listen = inr (inr (inl (refl, omega arith)))
ends Callsign = inr (inr (inr (inl (refl, omega arith))))
ends Reason = inr (inr (inl (refl, omega arith)))
ends Verdict_ = inr (inr (inl (refl, omega arith)))
ends Value = inr (inr (inr (inl (refl, omega arith))))
ends Packet = inr (inr (inr (inr refl)))

apart_by : (a s b : ℕ) → ((a ≡ 1) × (s ≤ 17)) ⊎ ((a ≡ 18) × (s ≤ 12)) ⊎ ((a ≡ 30) × (s ≤ 1)) ⊎ ((a ≡ 31) × (s ≤ 12)) ⊎ (a ≡ 43)
    → (b ≡ 1) ⊎ (b ≡ 18) ⊎ (b ≡ 30) ⊎ (b ≡ 31) ⊎ (b ≡ 43) → a < b → a + s ≤ b
apart_by a s b h k low = grind arith

begins_at : (f : RecordField) → (record_field_at f ≡ 1) ⊎ (record_field_at f ≡ 18) ⊎ (record_field_at f ≡ 30) ⊎ (record_field_at f ≡ 31) ⊎ (record_field_at f ≡ 43)
begins_at Link = inl refl
begins_at Place = inr (inl refl)
begins_at Listen = inr (inr (inl refl))
begins_at Callsign = inr (inr (inr (inl refl)))
begins_at Reason = inr (inr (inl refl))
begins_at Verdict_ = inr (inr (inl refl))
begins_at Value = inr (inr (inr (inl refl)))
begins_at Packet = inr (inr (inr (inr refl)))

apart : (f g : RecordField) → record_field_at f < record_field_at g → record_field_at f + record_field_size f ≤ record_field_at g
unfolding Ends
apart f g low = apart_by (record_field_at f) (record_field_size f) (record_field_at g) (ends f) (begins_at g) low

pub one_record_flaw : (version : Version) (b : List ℕ) (f g : Flaw) → RecordFlaw version b f → RecordFlaw version b g → f ≡ g
one_record_flaw version = one_flaw IsInRecord record_field_at record_field_size (IsAllowedInRecord version) IsShortRecord apart
