-- The answers that rules gave. For proofs alone.
use Rattle.std.specs.Prelude.{◌≡◌, ◌≢◌, Bool, false, List, [], length, if◌then◌else◌}
use Rattle.std.specs.List.{All}
use Rattle.m17_gate.specs.declared.asked.Asked.TheVariants.{Talks}
use Rattle.m17_gate.specs.declared.quick.Answer.{Answer}
use Rattle.m17_gate.specs.declared.rule.Rule.{Rule}
use Rattle.m17_gate.specs.Fits.{allows_asked, deny_all}

-- the answer is what the rules say of its sender
abbrev pub IsRight : List Rule → Answer → Type 0
IsRight rules answer = answer.allows ≡ allows_asked rules (Talks answer.src)

-- There are 256 answers, and each is right.
pub record AreRight (rules : List Rule) (answers : List Answer) : Type 0 where
  pub count : length answers ≡ 256
  pub each : All (IsRight rules) answers

-- Where the gate isn't shut and has rules, it has answers.
abbrev pub AreReady : Bool → List Rule → List Answer → Type 0
AreReady shut rules answers = shut ≡ false → rules ≢ [] → AreRight rules answers

-- its rules, and the one that denies everything where it is shut
abbrev pub rules_or_none_may : Bool → List Rule → List Rule
rules_or_none_may shut rules = if shut then deny_all else rules
