-- Link setup data: its 28 bytes, and the text of its TYPE. M17 Protocol Specification, link setup data.
use Rattle.std.specs.Prelude.{◌≡◌, ◌==◌, ℕ, ◌/◌, ◌%◌, ◌^◌, ◌<◌, List, ◌++◌, length, codes, decimal, if◌then◌else◌}
use Rattle.m17_fields.specs.Fields.{be_16, be_48, IsBytes}
use Rattle.m17_lsd.specs.declared.lsd.Lsd.{Lsd}

-- the numbers fit their fields
pub record FitsFields (l : Lsd) : Type 0 where
  pub dst : l.dst < 2 ^ 48
  pub src : l.src < 2 ^ 48
  pub kind : l.kind < 2 ^ 16
  pub meta_bytes : IsBytes l.meta
  pub meta_length : length l.meta ≡ 14

-- DST, SRC, TYPE and META, one after another
abbrev pub lsd_bytes : Lsd → List ℕ
lsd_bytes l = be_48 l.dst ++ be_48 l.src ++ be_16 l.kind ++ l.meta

-- `count` bits of TYPE from bit `low` on, as a number; bit 0 is the least significant
abbrev pub bits_at : ℕ → ℕ → ℕ → ℕ
bits_at kind low count = kind / 2 ^ low % 2 ^ count

-- bit 0
abbrev pub mode_of : ℕ → List ℕ
mode_of kind = if bits_at kind 0 1 == 1 then codes "stream" else codes "packet"

-- bits 1 and 2
abbrev pub data_of : ℕ → List ℕ
data_of kind = if bits_at kind 1 2 == 0 then codes "reserved" else
    (if bits_at kind 1 2 == 1 then codes "data" else
    (if bits_at kind 1 2 == 2 then codes "voice" else codes "both"))

-- the text of TYPE: its mode, its data type, and three numbers; bits 11 to 15 are not printed
abbrev pub text_of_type : ℕ → List ℕ
text_of_type kind = mode_of kind ++ codes " " ++ data_of kind
    ++ codes " enc " ++ decimal (bits_at kind 3 2)
    ++ codes " sub " ++ decimal (bits_at kind 5 2)
    ++ codes " can " ++ decimal (bits_at kind 7 4)
