use Rattle.m17_directory.proofs.LawJoins.{joins_claims}
use Rattle.m17_directory.proofs.laws.joins_are_the_claims.Goals as goal

pub returns : goal.returns
returns c = joins_claims
