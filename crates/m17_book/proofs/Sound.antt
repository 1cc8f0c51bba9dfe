-- Which fields of a record are allowed so far, and what that says of its bytes.
use Rattle.std.proofs.Common.{◌≡◌, ℕ, ◌+◌, ◌<◌, ◌≤◌, List, length, refl, arith}
use Rattle.m17_book.specs.Limits.{IsKind}
use Rattle.m17_book.specs.Flaws.{kind_of, AreAllowed, RecordFlaw, RecordField, Link, Place, Listen, Callsign, Reason, Verdict_, Value, Packet, IsInRecord, record_field_at, record_field_size, IsAllowedInRecord, IsShortRecord}
use Rattle.m17_book.specs.declared.refusal.Flaw.TheVariants as flaws
use Rattle.m17_book.specs.declared.version.Version.{Version}

module _ (version : Version) where
  abbrev pub Sound : List ℕ → ℕ → Type 0
  Sound b n = AreAllowed IsInRecord record_field_at record_field_size (IsAllowedInRecord version) IsShortRecord b n

  -- each field that ends by then is allowed
  pub sound : (b : List ℕ) (n : ℕ) → (2 ≤ n → IsAllowedInRecord version Link b) → (22 ≤ n → IsAllowedInRecord version Place b)
      → (kind_of b ≡ 1 → 31 ≤ n → IsAllowedInRecord version Listen b) → (kind_of b ≡ 1 → 37 ≤ n → IsAllowedInRecord version Callsign b)
      → (kind_of b ≡ 2 → 31 ≤ n → IsAllowedInRecord version Reason b) → (kind_of b ≡ 3 → 31 ≤ n → IsAllowedInRecord version Verdict_ b)
      → (kind_of b ≡ 3 → 43 ≤ n → IsAllowedInRecord version Value b) → (kind_of b ≡ 3 → 97 ≤ n → IsAllowedInRecord version Packet b)
      → Sound b n
  sound b n l p j c r v x q Link i w = l w
  sound b n l p j c r v x q Place i w = p w
  sound b n l p j c r v x q Listen i w = j i w
  sound b n l p j c r v x q Callsign i w = c i w
  sound b n l p j c r v x q Reason i w = r i w
  sound b n l p j c r v x q Verdict_ i w = v i w
  sound b n l p j c r v x q Value i w = x i w
  sound b n l p j c r v x q Packet i w = q i w

  pub sound_kind : (b : List ℕ) (n : ℕ) → n < 2 → Sound b n
  sound_kind b n h = sound b n (λ w. absurd (omega arith)) (λ w. absurd (omega arith)) (λ k w. absurd (omega arith)) (λ k w. absurd (omega arith))
      (λ k w. absurd (omega arith)) (λ k w. absurd (omega arith)) (λ k w. absurd (omega arith)) (λ k w. absurd (omega arith))

  pub sound_link : (b : List ℕ) (n : ℕ) → n < 22 → IsAllowedInRecord version Link b → Sound b n
  sound_link b n h l = sound b n (λ w. l) (λ w. absurd (omega arith)) (λ k w. absurd (omega arith)) (λ k w. absurd (omega arith))
      (λ k w. absurd (omega arith)) (λ k w. absurd (omega arith)) (λ k w. absurd (omega arith)) (λ k w. absurd (omega arith))

  pub sound_head : (b : List ℕ) (n : ℕ) → n < 31 → IsAllowedInRecord version Link b → IsAllowedInRecord version Place b → Sound b n
  sound_head b n h l p = sound b n (λ w. l) (λ w. p) (λ k w. absurd (omega arith)) (λ k w. absurd (omega arith))
      (λ k w. absurd (omega arith)) (λ k w. absurd (omega arith)) (λ k w. absurd (omega arith)) (λ k w. absurd (omega arith))

  pub sound_join : (b : List ℕ) (n : ℕ) → n < 37 → kind_of b ≡ 1 → IsAllowedInRecord version Link b → IsAllowedInRecord version Place b
      → IsAllowedInRecord version Listen b → Sound b n
  sound_join b n h kind l p j = sound b n (λ w. l) (λ w. p) (λ k w. j) (λ k w. absurd (omega arith))
      (λ k w. absurd (omega arith)) (λ k w. absurd (omega arith)) (λ k w. absurd (omega arith)) (λ k w. absurd (omega arith))

  pub sound_verdict : (b : List ℕ) (n : ℕ) → n < 43 → kind_of b ≡ 3 → IsAllowedInRecord version Link b → IsAllowedInRecord version Place b
      → IsAllowedInRecord version Verdict_ b → Sound b n
  sound_verdict b n h kind l p v = sound b n (λ w. l) (λ w. p) (λ k w. absurd (omega arith)) (λ k w. absurd (omega arith))
      (λ k w. absurd (omega arith)) (λ k w. v) (λ k w. absurd (omega arith)) (λ k w. absurd (omega arith))

  pub sound_value : (b : List ℕ) (n : ℕ) → n < 97 → kind_of b ≡ 3 → IsAllowedInRecord version Link b → IsAllowedInRecord version Place b
      → IsAllowedInRecord version Verdict_ b → IsAllowedInRecord version Value b → Sound b n
  sound_value b n h kind l p v x = sound b n (λ w. l) (λ w. p) (λ k w. absurd (omega arith)) (λ k w. absurd (omega arith))
      (λ k w. absurd (omega arith)) (λ k w. v) (λ k w. x) (λ k w. absurd (omega arith))

  -- the first field that is not allowed
  pub bad_field : (b : List ℕ) (field : RecordField) → IsKind (kind_of b) → IsInRecord field b
      → record_field_at field + record_field_size field ≤ length b → Sound b (record_field_at field)
      → (IsAllowedInRecord version field b → ⊥) → RecordFlaw version b (flaws.Field (record_field_at field))
  bad_field b field known is_in whole before bad =
      (known, field, record { is_in = is_in; whole = whole; before = before; bad = bad }, refl)

-- the bytes end before the record of their kind does
pub short_join : (b : List ℕ) → kind_of b ≡ 1 → length b < 37 → IsShortRecord b
short_join b kind h = record { join = λ k. h; leave = λ k. absurd (omega arith); packet = λ k. absurd (omega arith) }

pub short_leave : (b : List ℕ) → kind_of b ≡ 2 → length b < 31 → IsShortRecord b
short_leave b kind h = record { join = λ k. absurd (omega arith); leave = λ k. h; packet = λ k. absurd (omega arith) }

pub short_packet : (b : List ℕ) → kind_of b ≡ 3 → length b < 97 → IsShortRecord b
short_packet b kind h = record { join = λ k. absurd (omega arith); leave = λ k. absurd (omega arith); packet = λ k. h }

pub short_head : (b : List ℕ) → length b < 30 → IsShortRecord b
short_head b h = record { join = λ k. omega arith; leave = λ k. omega arith; packet = λ k. omega arith }
