use Rattle.m17_directory.proofs.LawDoor.{told_apart}
use Rattle.m17_directory.proofs.laws.peers_are_told_apart.Goals as goal

pub returns : goal.returns
returns c = told_apart
