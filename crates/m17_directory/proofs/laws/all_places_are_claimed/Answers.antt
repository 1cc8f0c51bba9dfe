use Rattle.m17_directory.proofs.LawPlaces.{all_claimed}
use Rattle.m17_directory.proofs.laws.all_places_are_claimed.Goals as goal

pub returns : goal.returns
returns c = all_claimed
