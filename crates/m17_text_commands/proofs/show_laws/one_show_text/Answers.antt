use Rattle.m17_text_commands.proofs.ShowOneText.{one_show_text}
use Rattle.m17_text_commands.proofs.show_laws.one_show_text.Goals as goal

pub returns : goal.returns
returns c = one_show_text c.decoding_is_exact.ensures.one_of_both
