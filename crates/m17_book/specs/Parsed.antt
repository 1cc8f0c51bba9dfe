-- What the parts of a record's reader answer. No public clause of a function cites this module.
use Rattle.std.specs.Prelude.{◌≡◌, ℕ, ◌<◌, ◌≤◌, List, ◌∷◌, length, take, drop, slice_index}
use Rattle.m17_floor.specs.declared.verdict.Verdict.{Verdict}
use Rattle.m17_fields.specs.Fields.{be_32, field_at}
use Rattle.m17_book.specs.Flaws.{kind_of}
use Rattle.m17_book.specs.Records.{FitsHead, FitsVerdict, zeros_12, head_bytes, verdict_code, value_bytes}
use Rattle.m17_book.specs.declared.parse_record.Common.{Common}

-- the first `size` of these bytes spell the value
pub record BeginsWith {Value : Type 0} (Spells : Value → List ℕ → Type 0)
    (bytes : List ℕ) (value : Value) (size : ℕ) : Type 0 where
  pub some : 0 < size
  pub within : size ≤ length bytes
  pub spelled : Spells value (take size bytes)

-- the first 30 bytes are those of these fields, which fit their places
pub record HasHead (bytes : List ℕ) (head : Common) : Type 0 where
  pub within : 30 ≤ length bytes
  pub fits : FitsHead head.tag head.moment head.member
  pub bytes_are : take 30 bytes ≡ head_bytes (kind_of bytes) head.tag head.moment head.member
  pub link : slice_index bytes 1 < 4
  pub place : (place : ℕ) × (place < 256) × (be_32 place ≡ field_at 18 4 bytes)

-- the verdict has this byte and this value
abbrev pub IsValueOf : ℕ → List ℕ → Verdict → Type 0
IsValueOf code value verdict =
    FitsVerdict verdict × (verdict_code verdict ≡ code) × (value_bytes verdict ≡ value)

-- the 16 bytes of an address: its own, and then zeros
pub record IsAddress (bytes ip : List ℕ) : Type 0 where
  pub size : length ip ≡ 16
  pub front : take (length bytes) ip ≡ bytes
  pub back : drop (length bytes) ip ≡ drop (length bytes) (0 ∷ 0 ∷ 0 ∷ 0 ∷ zeros_12)
