-- What is wrong with the first bytes of an input is wrong with the input: 97 of its bytes, or all, say what stands first.
use Rattle.std.proofs.Common.{◌≡◌, ◌⊎◌, ℕ, ◌+◌, ◌<◌, ◌≤◌, List, ◌++◌, length, take, drop, get_or, inl, inr, sym, ap, subst, ◌∙◌, arith, length-append}
use Rattle.std.proofs.lemmas.List.{take-append-le, drop-append-le, length-drop}
use Rattle.std.proofs.lemmas.Grind.{common_steps}
use Rattle.m17_stream.specs.Stream.{SpellsStream}
use Rattle.m17_book.specs.Limits.{IsKind}
use Rattle.m17_control.specs.Forms.{IsModule}
use Rattle.m17_book.specs.Book.{BookHeaderFlaw}
use Rattle.m17_book.specs.Flaws.{kind_of, IsFirstBad, RecordFlaw, RecordField, Link, Place, Listen, Callsign, Reason, Verdict_, Value, Packet, IsInRecord, record_field_at, record_field_size, IsAllowedInRecord, IsShortRecord}
use Rattle.m17_book.specs.declared.refusal.Flaw.{Flaw}
use Rattle.m17_book.specs.declared.refusal.Flaw.TheVariants as flaws
use Rattle.m17_book.specs.Versions.{header_size}
use Rattle.m17_book.specs.declared.version.Version.TheVariants.{One, Two}
use Rattle.m17_book.specs.declared.version.Version.{Version}

-- the first n bytes are the same
pub record Same (a b : List ℕ) (n : ℕ) : Type 0 where
  pub at : (i : ℕ) → i < n → get_or a i 0 ≡ get_or b i 0
  pub field : (i size : ℕ) → i + size ≤ n → take size (drop i a) ≡ take size (drop i b)

at_front : (b more : List ℕ) (i : ℕ) → i < length b → get_or (b ++ more) i 0 ≡ get_or b i 0
at_front b more i h = grind (arith, common_steps)

field_in_front : (b more : List ℕ) (i size : ℕ) → i + size ≤ length b → take size (drop i (b ++ more)) ≡ take size (drop i b)
field_in_front b more i size h =
    ap (take size) (drop-append-le i b more (omega arith)) ∙ take-append-le size (drop i b) more (omega (arith, length-drop i b))

pub same_front : (b more : List ℕ) → Same b (b ++ more) (length b)
same_front b more = record { at = λ i h. sym (at_front b more i h); field = λ i size h. sym (field_in_front b more i size h) }

pub same_back : (b more : List ℕ) → Same (b ++ more) b (length b)
same_back b more = record { at = λ i h. at_front b more i h; field = λ i size h. field_in_front b more i size h }

in_record : (field : RecordField) (a b : List ℕ) (n : ℕ) → Same a b n → 0 < n → IsInRecord field a → IsInRecord field b
in_record Link a b n s some h = tt
in_record Place a b n s some h = tt
in_record Listen a b n s some h = sym (s.at 0 some) ∙ h
in_record Callsign a b n s some h = sym (s.at 0 some) ∙ h
in_record Reason a b n s some h = sym (s.at 0 some) ∙ h
in_record Verdict_ a b n s some h = sym (s.at 0 some) ∙ h
in_record Value a b n s some h = sym (s.at 0 some) ∙ h
in_record Packet a b n s some h = sym (s.at 0 some) ∙ h

pub known_kind : (k : ℕ) → IsKind k → (k ≡ 1) ⊎ (k ≡ 2) ⊎ (k ≡ 3)
known_kind k h = grind arith

pub short_below : (b : List ℕ) → IsShortRecord b → (kind_of b ≡ 1) ⊎ (kind_of b ≡ 2) ⊎ (kind_of b ≡ 3) → length b < 97
short_below b s (inl k) = omega (arith, s.join k)
short_below b s (inr (inl k)) = omega (arith, s.leave k)
short_below b s (inr (inr k)) = s.packet k

pub same_kind : (b more : List ℕ) → 0 < length b → kind_of b ≡ kind_of (b ++ more)
same_kind b more h = (same_front b more).at 0 h

-- what a cursor holds of what is to come: 97 bytes of it at least, or all
pub record IsWindow (b ahead : List ℕ) : Type 0 where
  pub more : List ℕ
  pub split : ahead ≡ b ++ more
  pub enough : (97 ≤ length b) ⊎ (ahead ≡ b)

-- a header has fewer bytes than a record at the most
short_header : (version : Version) → header_size version ≤ 17
short_header One = omega arith
short_header Two = omega arith

module _ (version : Version) where
  allowed_record : (field : RecordField) (a b : List ℕ) (n : ℕ) → Same a b n → record_field_at field + record_field_size field ≤ n
      → IsAllowedInRecord version field a → IsAllowedInRecord version field b
  allowed_record Link a b n s w h = omega (arith, s.at 1 (omega arith))
  allowed_record Place a b n s w h = (h.0, h.1, h.2 ∙ s.field 18 4 (omega arith))
  allowed_record Listen a b n s w h = omega (arith, s.at 30 (omega arith))
  allowed_record Callsign a b n s w h = (h.0, h.1, h.2 ∙ s.field 31 6 (omega arith))
  allowed_record Reason a b n s w h = (omega (arith, s.at 30 (omega arith)), omega (arith, s.at 30 (omega arith)))
  allowed_record Verdict_ a b n s w h = (omega (arith, s.at 30 (omega arith)), omega (arith, s.at 30 (omega arith)))
  allowed_record Value a b n s w h = (h.0, h.1, h.2 ∙ s.at 30 (omega arith), h.3 ∙ s.field 31 12 (omega arith))
  allowed_record Packet a b n s w h = (h.0, subst (λ (xs : List ℕ). SpellsStream h.0 xs) (s.field 43 54 (omega arith)) h.1)

  first_bad_record : (b more : List ℕ) (field : RecordField) → 0 < length b
      → IsFirstBad IsInRecord record_field_at record_field_size (IsAllowedInRecord version) IsShortRecord b field
      → IsFirstBad IsInRecord record_field_at record_field_size (IsAllowedInRecord version) IsShortRecord (b ++ more) field
  first_bad_record b more field some bad =
      let front = same_front b more in
      let back = same_back b more in
      record {
        is_in = in_record field b (b ++ more) (length b) front some bad.is_in;
        whole = omega (arith, length-append b more, bad.whole);
        before = λ f i w. allowed_record f b (b ++ more) (length b) front (omega (arith, bad.whole))
            (bad.before f (in_record f (b ++ more) b (length b) back some i) w);
        bad = λ h. bad.bad (allowed_record field (b ++ more) b (length b) back bad.whole h);
      }

  long_flaw : (b more : List ℕ) (flaw : Flaw) → 97 ≤ length b → RecordFlaw version b flaw → RecordFlaw version (b ++ more) flaw
  long_flaw b more flaws.Cut long h = absurd (omega (arith, short_below b h.2 (known_kind (kind_of b) h.1)))
  long_flaw b more (flaws.Kind byte) long h =
      (omega (arith, length-append b more), h.1 ∙ same_kind b more (omega arith), h.2)
  long_flaw b more (flaws.Field k) long h =
      (subst IsKind (same_kind b more (omega arith)) h.0, h.1, first_bad_record b more h.1 (omega arith) h.2, h.3)

  pub record_flaw : (b ahead : List ℕ) (flaw : Flaw) → IsWindow b ahead → RecordFlaw version b flaw → RecordFlaw version ahead flaw
  record_flaw b ahead flaw w h = elim w.enough [
    | inl long ↦ subst (λ (xs : List ℕ). RecordFlaw version xs flaw) (sym w.split) (long_flaw b w.more flaw long h)
    | inr same ↦ subst (λ (xs : List ℕ). RecordFlaw version xs flaw) (sym same) h
  ]

  long_header : (b more : List ℕ) (flaw : Flaw) → 97 ≤ length b → BookHeaderFlaw version b flaw → BookHeaderFlaw version (b ++ more) flaw
  long_header b more flaws.Cut long (inl h) = absurd (omega arith)
  long_header b more flaws.Cut long (inr h) = absurd (omega (arith, h.2.0, short_header version))
  long_header b more (flaws.Kind byte) long (inl h) = absurd h
  long_header b more (flaws.Kind byte) long (inr h) = absurd h.2
  long_header b more (flaws.Field k) long (inl h) =
      let same = same_back b more in
      inl (omega (arith, length-append b more), h.1, λ e. h.2 (sym (same.at k (omega (arith, h.1))) ∙ e), λ j low. same.at j (omega (arith, h.1)) ∙ h.3 j low)
  long_header b more (flaws.Field k) long (inr h) =
      let same = same_back b more in
      inr (
        omega (arith, length-append b more),
        same.field 0 8 (omega arith) ∙ h.1,
        (h.2.0, omega (arith, length-append b more), λ is. h.2.2 (subst IsModule (same.at 8 (omega arith)) is)),
      )

  pub header_flaw : (b ahead : List ℕ) (flaw : Flaw) → IsWindow b ahead → BookHeaderFlaw version b flaw → BookHeaderFlaw version ahead flaw
  header_flaw b ahead flaw w h = elim w.enough [
    | inl long ↦ subst (λ (xs : List ℕ). BookHeaderFlaw version xs flaw) (sym w.split) (long_header b w.more flaw long h)
    | inr same ↦ subst (λ (xs : List ℕ). BookHeaderFlaw version xs flaw) (sym same) h
  ]

  -- a header that is cut leaves nothing after it
  pub cut_header : (b : List ℕ) → BookHeaderFlaw version b flaws.Cut → length b < 97
  cut_header b (inl h) = omega arith
  cut_header b (inr h) = omega (arith, h.2.0, short_header version)
