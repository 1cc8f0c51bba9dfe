-- Packets and their bytes give each other. M17 Protocol Specification, IP networking.
use Rattle.std.specs.Prelude.{◌≡◌, ℕ, List}
use Rattle.m17_fields.specs.Fields.{IsBytes}
use Rattle.m17_fields.specs.Reading.{HasOneReading}
use Rattle.m17_control.specs.declared.packet.Packet.{Packet}
use Rattle.m17_control.specs.declared.modules.Modules.{Modules}
use Rattle.m17_control.specs.Modules.{serves, IsSet}
use Rattle.m17_control.specs.Forms.{Spells, Refuses}

-- Each list of bytes has exactly one packet or exactly one refusal, and no two lists have the same packet.
pub record DecodingIsExact : Type 0 where
  pub one_of_both : (bytes : List ℕ) → IsBytes bytes → HasOneReading Spells Refuses bytes
  pub one_spelling : (p : Packet) (a b : List ℕ) → Spells p a → Spells p b → a ≡ b

-- Sets of modules with the same letters are equal.
abbrev pub SetsAreTheirLetters : Type 0
SetsAreTheirLetters = (m n : Modules) → IsSet m → IsSet n
    → ((letter : ℕ) → serves m letter ≡ serves n letter) → m ≡ n
