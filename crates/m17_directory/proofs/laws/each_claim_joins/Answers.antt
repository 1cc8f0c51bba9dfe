use Rattle.m17_directory.proofs.LawClaims.{claim_joins}
use Rattle.m17_directory.proofs.laws.each_claim_joins.Goals as goal

pub returns : goal.returns
returns c = claim_joins
