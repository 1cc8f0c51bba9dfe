use Rattle.m17_directory.proofs.Otherwise.{places_change_nothing}
use Rattle.m17_directory.proofs.laws.members_change_no_verdict.Goals as goal

pub returns : goal.returns
returns c = places_change_nothing
