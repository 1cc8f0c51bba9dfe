use Rattle.m17_client_commands.proofs.Exact.{exact}
use Rattle.m17_client_commands.proofs.laws.scripts_are_exact.Goals as goal

pub returns : goal.returns
returns c = exact c.one_spelling.ensures c.reading_is_exact.ensures
