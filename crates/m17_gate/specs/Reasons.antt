-- The words of the reasons for which a text of rules is refused.
use Rattle.std.specs.Prelude.{ℕ, List, codes}
use Rattle.m17_gate.specs.declared.failure.RulesReason.{RulesReason}
use Rattle.m17_gate.specs.declared.failure.RulesReason.TheVariants.{Large, Act, Kind, Modules, Pattern}

abbrev pub rules_reason_words : RulesReason → List ℕ
rules_reason_words Large = codes "large"
rules_reason_words Act = codes "act"
rules_reason_words Kind = codes "kind"
rules_reason_words Modules = codes "modules"
rules_reason_words Pattern = codes "pattern"
