use Rattle.m17_directory.proofs.LawNames.{of_claimed}
use Rattle.m17_directory.proofs.laws.route_is_of_claimed.Goals as goal

pub returns : goal.returns
returns c = of_claimed
