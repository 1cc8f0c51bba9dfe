use Rattle.m17_text_commands.proofs.CheckOneText.{one_check_text}
use Rattle.m17_text_commands.proofs.check_laws.one_check_text.Goals as goal

pub returns : goal.returns
returns c = one_check_text c.books_are_exact.ensures c.books_are_judged_act_by_act.ensures.one_first
