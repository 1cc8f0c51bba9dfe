-- The words of the reasons of `check`.
use Rattle.std.specs.Prelude.{ℕ, List, [], ◌∷◌, ◌++◌, codes}
use Rattle.m17_print.specs.Line.{hex_of}
use Rattle.m17_text_commands.specs.declared.check_reason.CheckReason.{CheckReason}
use Rattle.m17_text_commands.specs.declared.check_reason.CheckReason.TheVariants.{Cut, Kind, Field, Large, Moment, Member, Verdict}

abbrev pub check_reason_words : CheckReason → List ℕ
check_reason_words Cut = codes "cut"
check_reason_words (Kind byte) = codes "kind " ++ hex_of (byte ∷ [])
check_reason_words Field = codes "field"
check_reason_words Large = codes "large"
check_reason_words Moment = codes "moment"
check_reason_words Member = codes "member"
check_reason_words Verdict = codes "verdict"
