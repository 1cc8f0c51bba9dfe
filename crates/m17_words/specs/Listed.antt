-- The options and arguments that the code lists, as rules of `clap`, for the code alone.
use Rattle.std.specs.Prelude.{List, map}
use Rattle.std.specs.Borrow.{Bor}
use Rattle.clap.specs.Words.{Rule, Text}
use Rattle.m17_words.specs.declared.tables.Kind.{Kind}
use Rattle.m17_words.specs.declared.tables.Kind.TheVariants.{Value, Needed, Flag, Argument, Arguments}
use Rattle.m17_words.specs.Tables.{option, needed, flag, argument, arguments}

abbrev pub rule_for : Text → Kind → Rule
rule_for name Value = option name
rule_for name Needed = needed name
rule_for name Flag = flag name
rule_for name Argument = argument name
rule_for name Arguments = arguments name

abbrev pub rules_for : List (Bor Text × Kind) → List Rule
rules_for listed = map (λ o. rule_for o.0.now o.1) listed
