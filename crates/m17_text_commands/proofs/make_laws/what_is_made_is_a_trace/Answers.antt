use Rattle.m17_text_commands.proofs.Texts.{makes_a_trace}
use Rattle.m17_text_commands.proofs.make_laws.what_is_made_is_a_trace.Goals as goal

pub returns : goal.returns
returns c = makes_a_trace
