-- The words of the reasons of `judge`.
use Rattle.std.specs.Prelude.{ℕ, List, codes}
use Rattle.m17_text_commands.specs.declared.judge_reason.JudgeReason.{JudgeReason}
use Rattle.m17_text_commands.specs.declared.judge_reason.JudgeReason.TheVariants.{Cut, Large}

abbrev pub judge_reason_words : JudgeReason → List ℕ
judge_reason_words Cut = codes "cut"
judge_reason_words Large = codes "large"
