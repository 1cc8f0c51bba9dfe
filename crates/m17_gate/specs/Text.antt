-- Rule texts: their lines, the parts of a line, and why others are refused.
use Rattle.std.specs.Prelude.{◌≡◌, ◌≢◌, ◌==◌, ◌↔◌, ℕ, ◌-◌, ◌<◌, ◌≤◌, Bool, true, false, not, List, [], ◌∷◌, length, take, map, filter, slice_get, slice_index, codes, IsTrue, Contains, Option, None, Some, if◌then◌else◌}
use Rattle.std.specs.List.{All, AllZip, slice_split, before_first, after_first}
use Rattle.m17_control.specs.Modules.{IsModulesText, IsSet, serves}
use Rattle.m17_control.specs.declared.modules.Modules.{Modules}
use Rattle.m17_gate.specs.declared.rule.Act.{Act}
use Rattle.m17_gate.specs.declared.rule.Act.TheVariants.{Allow, Deny}
use Rattle.m17_gate.specs.declared.rule.Kind.{Kind}
use Rattle.m17_gate.specs.declared.rule.Kind.TheVariants.{Conn, Lstn, Talk, Any}
use Rattle.m17_gate.specs.declared.rule.Pattern.{Pattern}
use Rattle.m17_gate.specs.declared.rule.Rule.{Rule}
use Rattle.m17_gate.specs.declared.refusal.Reason.{Reason}
use Rattle.m17_gate.specs.declared.refusal.Reason.TheVariants as reasons
use Rattle.m17_gate.specs.declared.refusal.RulesRefusal.{RulesRefusal}
use Rattle.m17_gate.specs.declared.refusal.RulesRefusal.TheVariants.{Large, Line, ReadFault, NoMemory}
use Rattle.m17_gate.specs.Patterns.{IsPattern}

-- how many bytes a rule text may have
abbrev pub most_bytes : ℕ
most_bytes = 65536

-- what a line holds: one carriage return before its end is dropped
abbrev pub content_of : List ℕ → List ℕ
content_of line =
    if slice_index line (length line - 1) == 13 then take (length line - 1) line else line

abbrev pub is_feed : ℕ → Bool
is_feed byte = byte == 10

-- What the lines hold, which stand between the line feeds. Where nothing stands behind the last
-- of these, that is an empty line more, and so passed over.
abbrev pub lines_of : List ℕ → List (List ℕ)
lines_of text = map content_of (slice_split is_feed text)

-- A line is for a rule: it is not empty, and does not begin with `;`.
abbrev pub is_ruled : List ℕ → Bool
is_ruled [] = false
is_ruled (first ∷ rest) = not (first == 59)

-- The parts of a line, which is cut at its first three spaces: act, kind, modules, and all the
-- rest. A missing part is empty.
abbrev pub is_space : ℕ → Bool
is_space byte = byte == 32

abbrev pub first_part : List ℕ → List ℕ
first_part line = before_first is_space line

abbrev pub other_parts : List ℕ → List ℕ
other_parts line = after_first is_space line

abbrev pub act_part : List ℕ → List ℕ
act_part line = first_part line

abbrev pub kind_part : List ℕ → List ℕ
kind_part line = first_part (other_parts line)

abbrev pub modules_part : List ℕ → List ℕ
modules_part line = first_part (other_parts (other_parts line))

abbrev pub pattern_part : List ℕ → List ℕ
pattern_part line = other_parts (other_parts (other_parts line))

-- The text of an act, and of a kind.
abbrev pub IsAct : List ℕ → Act → Type 0
IsAct text Allow = text ≡ codes "allow"
IsAct text Deny = text ≡ codes "deny"

abbrev pub IsKind : List ℕ → Kind → Type 0
IsKind text Conn = text ≡ codes "conn"
IsKind text Lstn = text ≡ codes "lstn"
IsKind text Talk = text ≡ codes "talk"
IsKind text Any = text ≡ codes "any"

-- The text of the modules of a rule of this kind: a `*`, or letters of modules, each once, where
-- it is not about who speaks.
abbrev pub AreModules : Kind → List ℕ → Option Modules → Type 0
AreModules kind text None = text ≡ codes "*"
AreModules kind text (Some modules) = (kind ≢ Talk) × IsModulesText text × IsSet modules
    × ((letter : ℕ) → IsTrue (serves modules letter) ↔ Contains text letter)

-- The line is written for this rule.
pub record IsRule (line : List ℕ) (rule : Rule) : Type 0 where
  pub act : IsAct (act_part line) rule.act
  pub kind : IsKind (kind_part line) rule.kind
  pub modules : AreModules rule.kind (modules_part line) rule.modules
  pub pattern : IsPattern (pattern_part line) rule.pattern

-- The line is written for no rule, and this is the first part that is refused.
abbrev pub IsRefusedPart : List ℕ → Reason → Type 0
IsRefusedPart line reasons.Act = (act : Act) → IsAct (act_part line) act → ⊥
IsRefusedPart line reasons.Kind = (act : Act) × IsAct (act_part line) act
    × ((kind : Kind) → IsKind (kind_part line) kind → ⊥)
IsRefusedPart line reasons.Modules = (act : Act) × IsAct (act_part line) act
    × (kind : Kind) × IsKind (kind_part line) kind
    × ((modules : Option Modules) → AreModules kind (modules_part line) modules → ⊥)
IsRefusedPart line reasons.Pattern = (act : Act) × IsAct (act_part line) act
    × (kind : Kind) × IsKind (kind_part line) kind
    × (modules : Option Modules) × AreModules kind (modules_part line) modules
    × ((pattern : Pattern) → IsPattern (pattern_part line) pattern → ⊥)

-- The text is written for these rules: it is not large, and each line for a rule is written for
-- the one beside it.
pub record AreRules (text : List ℕ) (rules : List Rule) : Type 0 where
  pub not_large : length text ≤ most_bytes
  pub each : AllZip IsRule (filter is_ruled (lines_of text)) rules

-- A line is passed over, or written for a rule.
abbrev pub IsSound : List ℕ → Type 0
IsSound line = is_ruled line ≡ true → (rule : Rule) × IsRule line rule

-- This is the first line that is refused, and its first refused part.
pub record IsRefusedLine (text : List ℕ) (number : ℕ) (reason : Reason) : Type 0 where
  pub line : List ℕ
  pub there : slice_get (lines_of text) number ≡ Some line
  pub ruled : is_ruled line ≡ true
  pub part : IsRefusedPart line reason
  pub earlier : All IsSound (take number (lines_of text))

-- The text is refused for this: it has more bytes than it may, or a line of it is refused. Of a
-- source that failed, and of want of memory, the text says nothing.
abbrev pub IsRefused : List ℕ → RulesRefusal → Type 0
IsRefused text (Large place) = (most_bytes < length text) × (place ≡ most_bytes)
IsRefused text (Line number reason) = (length text ≤ most_bytes) × IsRefusedLine text number reason
IsRefused text ReadFault = Unit {0}
IsRefused text NoMemory = Unit {0}
