use Rattle.std.proofs.lemmas.List.{get_or-replicate}
use Rattle.m17_house.proofs.run.no_counts.Goals as goal

pub returns-clause-none : goal.returns-clause-none
returns-clause-none c = λ place below. get_or-replicate 256 place 0 0 below
