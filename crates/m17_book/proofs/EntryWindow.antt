-- What is wrong with the first bytes of what is to come of a trace is wrong with all of it.
use Rattle.std.proofs.Common.{◌≡◌, ◌⊎◌, ℕ, ◌+◌, ◌<◌, ◌≤◌, ◌^◌, List, ◌++◌, length, get_or, inl, inr, refl, sym, ap, subst, ◌∙◌, arith, length-append}
use Rattle.m17_book.specs.Limits.{told, IsKind}
use Rattle.m17_book.specs.Book.{TellsFlaw, MagicFlaw}
use Rattle.m17_book.specs.Flaws.{kind_of, IsFirstBad, EntryFlaw, EntryField, Family, Length_4, Length_6, IsInEntry, entry_field_at, entry_field_size, IsAllowedInEntry, IsShortEntry}
use Rattle.m17_book.specs.Steps.{tell}
use Rattle.m17_book.specs.declared.refusal.Flaw.{Flaw}
use Rattle.m17_book.specs.declared.refusal.Flaw.TheVariants as flaws
use Rattle.m17_book.proofs.Window.{Same, IsWindow, same_front, same_back, known_kind, same_kind}

in_entry : (field : EntryField) (a b : List ℕ) (n : ℕ) → Same a b n → entry_field_at field < n → IsInEntry field a → IsInEntry field b
in_entry Family a b n s w h = sym (s.at 0 (omega arith)) ∙ h
in_entry Length_4 a b n s w h = (sym (s.at 0 (omega arith)) ∙ h.0, sym (s.at 9 (omega arith)) ∙ h.1)
in_entry Length_6 a b n s w h = (sym (s.at 0 (omega arith)) ∙ h.0, sym (s.at 9 (omega arith)) ∙ h.1)

family_of : (a b : ℕ) → a ≡ b → (a ≡ 4) ⊎ (a ≡ 6) → (b ≡ 4) ⊎ (b ≡ 6)
family_of a b e (inl h) = inl (sym e ∙ h)
family_of a b e (inr h) = inr (sym e ∙ h)

allowed_entry : (field : EntryField) (a b : List ℕ) (n : ℕ) → Same a b n → entry_field_at field < n
    → IsAllowedInEntry field a → IsAllowedInEntry field b
allowed_entry Family a b n s w h = family_of _ _ (s.at 9 (omega arith)) h
allowed_entry Length_4 a b n s w h = omega (arith, s.at 16 (omega arith))
allowed_entry Length_6 a b n s w h = omega (arith, s.at 28 (omega arith))

first_bad_entry : (b more : List ℕ) (field : EntryField) → 0 < length b
    → IsFirstBad IsInEntry entry_field_at entry_field_size IsAllowedInEntry IsShortEntry b field
    → IsFirstBad IsInEntry entry_field_at entry_field_size IsAllowedInEntry IsShortEntry (b ++ more) field
first_bad_entry b more field some bad =
    let front = same_front b more in
    let back = same_back b more in
    record {
      is_in = in_entry field b (b ++ more) (length b) front (omega (arith, bad.whole)) bad.is_in;
      whole = omega (arith, length-append b more, bad.whole);
      before = λ f i w. allowed_entry f b (b ++ more) (length b) front (omega (arith, bad.whole, w))
          (bad.before f (in_entry f (b ++ more) b (length b) back (omega (arith, bad.whole, w)) i) w);
      bad = λ h. bad.bad (allowed_entry field (b ++ more) b (length b) back (omega (arith, bad.whole)) h);
    }

-- a datagram that is cut has its family, if the bytes reach it, and its length, and so ends soon
short_datagram : (b : List ℕ) → kind_of b ≡ 1 → 29 ≤ length b → (get_or b 9 0 ≡ 4) ⊎ (get_or b 9 0 ≡ 6) → IsShortEntry b
    → ((field : EntryField) → IsInEntry field b → entry_field_at field + 1 ≤ length b → IsAllowedInEntry field b) → length b < 97
short_datagram b kind long (inl four) s allowed = omega (arith, s.datagram_4 kind four, allowed Length_4 (kind, four) (omega arith))
short_datagram b kind long (inr six) s allowed = omega (arith, s.datagram_6 kind six, allowed Length_6 (kind, six) (omega arith))

cut_by_kind : (b : List ℕ) → 97 ≤ length b → EntryFlaw b flaws.Cut → (kind_of b ≡ 1) ⊎ (kind_of b ≡ 2) ⊎ (kind_of b ≡ 3) → ⊥
cut_by_kind b long h (inl one) = omega (arith, short_datagram b one (omega arith) (h.3 Family one (omega arith)) h.2 h.3)
cut_by_kind b long h (inr (inl two)) = omega (arith, h.2.quiet two)
cut_by_kind b long h (inr (inr three)) = h.2.fault three

-- 97 bytes have a whole entry, or a flaw that is no cut
pub no_cut : (b : List ℕ) → 97 ≤ length b → EntryFlaw b flaws.Cut → ⊥
no_cut b long h = cut_by_kind b long h (known_kind (kind_of b) h.1)

long_entry : (b more : List ℕ) (flaw : Flaw) → 97 ≤ length b → EntryFlaw b flaw → EntryFlaw (b ++ more) flaw
long_entry b more flaws.Cut long h = absurd (no_cut b long h)
long_entry b more (flaws.Kind byte) long h =
    (omega (arith, length-append b more), h.1 ∙ same_kind b more (omega arith), h.2)
long_entry b more (flaws.Field k) long h =
    (subst IsKind (same_kind b more (omega arith)) h.0, h.1, first_bad_entry b more h.1 (omega arith) h.2, h.3)

entry_flaw : (b ahead : List ℕ) (flaw : Flaw) → IsWindow b ahead → EntryFlaw b flaw → EntryFlaw ahead flaw
entry_flaw b ahead flaw w h = elim w.enough [
  | inl long ↦ subst (λ (xs : List ℕ). EntryFlaw xs flaw) (sym w.split) (long_entry b w.more flaw long h)
  | inr same ↦ subst (λ (xs : List ℕ). EntryFlaw xs flaw) (sym same) h
]

pub entry_told : (b ahead : List ℕ) (flaw : Flaw) (place : ℕ) → place < 2 ^ 64 → IsWindow b ahead → EntryFlaw b flaw
    → TellsFlaw EntryFlaw ahead place (tell flaw place (length b))
entry_told b ahead flaws.Cut place fits w h = elim w.enough [
  | inl long ↦ absurd (no_cut b long h)
  | inr same ↦ (subst (λ (xs : List ℕ). EntryFlaw xs flaws.Cut) (sym same) h, ap (λ (xs : List ℕ). told (place + length xs)) (sym same))
]
entry_told b ahead (flaws.Kind byte) place fits w h = (entry_flaw b ahead (flaws.Kind byte) w h, omega arith)
entry_told b ahead (flaws.Field k) place fits w h = (k, entry_flaw b ahead (flaws.Field k) w h, refl)

-- the same of a magic
long_magic : (magic b more : List ℕ) (flaw : Flaw) → 97 ≤ length b → MagicFlaw magic b flaw → MagicFlaw magic (b ++ more) flaw
long_magic magic b more flaws.Cut long h = absurd (omega arith)
long_magic magic b more (flaws.Kind byte) long h = h
long_magic magic b more (flaws.Field k) long h =
    let same = same_back b more in
    (omega (arith, length-append b more), h.1, λ e. h.2 (sym (same.at k (omega (arith, h.1))) ∙ e), λ j low. same.at j (omega (arith, h.1)) ∙ h.3 j low)

magic_flaw : (magic b ahead : List ℕ) (flaw : Flaw) → IsWindow b ahead → MagicFlaw magic b flaw → MagicFlaw magic ahead flaw
magic_flaw magic b ahead flaw w h = elim w.enough [
  | inl long ↦ subst (λ (xs : List ℕ). MagicFlaw magic xs flaw) (sym w.split) (long_magic magic b w.more flaw long h)
  | inr same ↦ subst (λ (xs : List ℕ). MagicFlaw magic xs flaw) (sym same) h
]

pub magic_told : (magic b ahead : List ℕ) (flaw : Flaw) (place : ℕ) → IsWindow b ahead → MagicFlaw magic b flaw
    → TellsFlaw (MagicFlaw magic) ahead place (tell flaw place (length b))
magic_told magic b ahead flaws.Cut place w h = elim w.enough [
  | inl long ↦ absurd (omega arith)
  | inr same ↦ (magic_flaw magic b ahead flaws.Cut w h, ap (λ (xs : List ℕ). told (place + length xs)) (sym same))
]
magic_told magic b ahead (flaws.Kind byte) place w h = absurd h
magic_told magic b ahead (flaws.Field k) place w h = (k, magic_flaw magic b ahead (flaws.Field k) w h, refl)
