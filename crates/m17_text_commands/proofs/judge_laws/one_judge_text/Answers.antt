use Rattle.m17_text_commands.proofs.JudgeOneText.{one_judge_text}
use Rattle.m17_text_commands.proofs.judge_laws.one_judge_text.Goals as goal

pub returns : goal.returns
returns c = one_judge_text c.reading_is_exact.ensures
