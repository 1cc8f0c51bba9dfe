use Rattle.m17_roll.proofs.Given.{all_free}
use Rattle.m17_roll.proofs.laws.given_back_is_free.Goals as goal

pub returns : goal.returns
returns c = all_free
