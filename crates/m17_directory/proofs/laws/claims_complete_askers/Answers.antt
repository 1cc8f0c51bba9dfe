use Rattle.m17_directory.proofs.LawDoor.{completes}
use Rattle.m17_directory.proofs.laws.claims_complete_askers.Goals as goal

pub returns : goal.returns
returns c = completes
