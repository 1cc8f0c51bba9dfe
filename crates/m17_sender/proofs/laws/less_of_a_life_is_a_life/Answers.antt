use Rattle.m17_sender.proofs.Less.{less}
use Rattle.m17_sender.proofs.laws.less_of_a_life_is_a_life.Goals as goal

pub returns : goal.returns
returns c = less
