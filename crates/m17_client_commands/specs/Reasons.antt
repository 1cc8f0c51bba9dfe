-- The words of the reasons for which a script is refused.
use Rattle.std.specs.Prelude.{ℕ, List, codes}
use Rattle.m17_client_commands.specs.declared.reason.ScriptReason.{ScriptReason}
use Rattle.m17_client_commands.specs.declared.reason.ScriptReason.TheVariants.{Cut, Field, Large}

abbrev pub script_reason_words : ScriptReason → List ℕ
script_reason_words Cut = codes "cut"
script_reason_words Field = codes "field"
script_reason_words Large = codes "large"
