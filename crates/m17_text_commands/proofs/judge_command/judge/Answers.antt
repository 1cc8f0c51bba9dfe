use Rattle.m17_text_commands.proofs.JudgeEnd.{past}
use Rattle.m17_text_commands.proofs.judge_command.judge.Goals as goal

pub returns-clause-ended : goal.returns-clause-ended
returns-clause-ended g c = λ bytes told.
    let full = c.in-None.ensures.full bytes told in
    past c.look_past.result bytes _ _ _ _ _ c.look_past.ensures.nothing_written full (c.look_past.ensures.looks _ full.rest_left)
