use Rattle.m17_directory.proofs.LawPlaces.{others_fit}
use Rattle.m17_directory.proofs.laws.others_fit_the_places.Goals as goal

pub returns : goal.returns
returns c = others_fit
