use Rattle.m17_directory.proofs.LawAskers.{askers}
use Rattle.m17_directory.proofs.laws.askers_join_or_are_full.Goals as goal

pub returns : goal.returns
returns c = askers
