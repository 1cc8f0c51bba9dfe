-- The fields of link setup data and its 28 bytes give each other. M17 Protocol Specification, link setup data.
use Rattle.std.specs.Prelude.{◌≡◌, ℕ, List, length}
use Rattle.m17_fields.specs.Fields.{IsBytes}
use Rattle.m17_lsd.specs.declared.lsd.Lsd.{Lsd}
use Rattle.m17_lsd.specs.Lsd.{FitsFields, lsd_bytes}

-- link setup data with the same bytes is the same
abbrev pub FieldsAreExact : Type 0
FieldsAreExact = (l m : Lsd) → FitsFields l → FitsFields m → lsd_bytes l ≡ lsd_bytes m → l ≡ m

-- each 28 bytes are those of link setup data
abbrev pub Each28BytesAreLinkSetupData : Type 0
Each28BytesAreLinkSetupData =
    (bytes : List ℕ) → length bytes ≡ 28 → IsBytes bytes
    → (l : Lsd) × FitsFields l × (lsd_bytes l ≡ bytes)
