use Rattle.std.proofs.Common.{Err, refl, ap, arith}
use Rattle.m17_text_commands.proofs.JudgeEnd.{nothing_past, failed_past}
use Rattle.m17_text_commands.proofs.judge_command.look_past.Goals as goal

pub returns-in-Ok-eq0-clause-looks : goal.returns-in-Ok-eq0-clause-looks
returns-in-Ok-eq0-clause-looks g c = λ left told. nothing_past left _ _ c.in-Ok-eq0.field-0 _ refl (omega arith) (c.in-Ok-eq0.ensures.filled left told)

pub returns-in-Err-Read-clause-looks : goal.returns-in-Err-Read-clause-looks
returns-in-Err-Read-clause-looks g c = λ left told. failed_past left 1 _ refl (c.in-Err-Read.ensures.cut_short (ap Err c.in-Err-Read.field-0-is) left told)
