-- The patterns of rules: how they are written.
use Rattle.std.specs.Prelude.{◌≡◌, ℕ, ◌<◌, ◌≤◌, List, ◌++◌, length, take, codes}
use Rattle.m17_callsign.specs.Callsign.{IsCallsignOf, MayStand}
use Rattle.m17_gate.specs.declared.letters.Letters.{Letters}
use Rattle.m17_gate.specs.declared.rule.Pattern.{Pattern}
use Rattle.m17_gate.specs.declared.rule.Pattern.TheVariants.{Every, One, Begin}

-- the letters before the `*`
abbrev pub front_of : Letters → List ℕ
front_of letters = take letters.count letters.bytes

-- A callsign may begin with these: one to nine letters of the alphabet, the first perhaps a `#`.
pub record IsFront (front : List ℕ) : Type 0 where
  pub not_empty : 0 < length front
  pub not_long : length front ≤ 9
  pub letters : (k : ℕ) → k < length front → MayStand front k

-- The text is written for this pattern: a `*`, a callsign, or what one may begin with and a `*`.
abbrev pub IsPattern : List ℕ → Pattern → Type 0
IsPattern text Every = text ≡ codes "*"
IsPattern text (One call) = IsCallsignOf text call
IsPattern text (Begin letters) = IsFront (front_of letters) × (text ≡ front_of letters ++ codes "*")
