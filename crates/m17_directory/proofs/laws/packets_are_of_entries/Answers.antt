use Rattle.m17_directory.proofs.LawJoins.{packets_of_entries}
use Rattle.m17_directory.proofs.laws.packets_are_of_entries.Goals as goal

pub returns : goal.returns
returns c = packets_of_entries
