use Rattle.m17_board.proofs.Lines.{tell_all}
use Rattle.m17_board.proofs.laws.lines_tell_first_parts.Goals as goal

pub returns : goal.returns
returns g c j k lines posters wrote saw = tell_all posters k.eyes.items lines wrote.tell saw
