use Rattle.m17_directory.proofs.LawClaims.{were_known}
use Rattle.m17_directory.proofs.laws.leavers_were_known.Goals as goal

pub returns : goal.returns
returns c = were_known
