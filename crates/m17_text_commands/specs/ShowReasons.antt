-- The words of the reasons of `show`.
use Rattle.std.specs.Prelude.{ℕ, List, codes}
use Rattle.m17_text_commands.specs.declared.show_reason.ShowReason.{ShowReason}
use Rattle.m17_text_commands.specs.declared.show_reason.ShowReason.TheVariants.{Large, Long, Odd, Digit}

abbrev pub show_reason_words : ShowReason → List ℕ
show_reason_words Large = codes "large"
show_reason_words Long = codes "long"
show_reason_words Odd = codes "odd"
show_reason_words Digit = codes "digit"
