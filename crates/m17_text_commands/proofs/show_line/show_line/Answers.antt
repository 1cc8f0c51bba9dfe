use Rattle.m17_print.proofs.Grown.{grows_line}
use Rattle.m17_text_commands.proofs.show_line.show_line.Goals as goal

pub returns-in-Ok-clause-appended : goal.returns-in-Ok-clause-appended
returns-in-Ok-clause-appended g c = grows_line _ _ _ c.in-Ok.ensures.ok
