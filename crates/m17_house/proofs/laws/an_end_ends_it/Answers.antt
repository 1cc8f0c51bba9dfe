use Rattle.m17_house.proofs.EndEnds.{end_ends_it}
use Rattle.m17_house.proofs.laws.an_end_ends_it.Goals as goal

pub returns : goal.returns
returns c = end_ends_it
