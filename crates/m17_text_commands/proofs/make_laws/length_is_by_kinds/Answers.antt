use Rattle.m17_text_commands.proofs.Texts.{length_by_kinds}
use Rattle.m17_text_commands.proofs.make_laws.length_is_by_kinds.Goals as goal

pub returns : goal.returns
returns c = length_by_kinds
