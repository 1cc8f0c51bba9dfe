use Rattle.m17_text_commands.proofs.ShowRun.{start}
use Rattle.m17_text_commands.proofs.show_command.show.Goals as goal

pub returns-in-Some-clause-ended : goal.returns-in-Some-clause-ended
returns-in-Some-clause-ended g c = λ bytes told. c.in-Some.ensures.shows bytes _ (start bytes _ _ _ c.new-reader.ensures told)

pub returns-in-None-clause-ended : goal.returns-in-None-clause-ended
returns-in-None-clause-ended g c = λ bytes told. c.end_at_limit.ensures.shows bytes _ (c.in-None.ensures.full bytes _ (start bytes _ _ _ c.new-reader.ensures told))
