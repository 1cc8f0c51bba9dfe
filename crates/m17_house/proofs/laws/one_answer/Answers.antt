use Rattle.m17_house.proofs.OneAnswer.{one_answer}
use Rattle.m17_house.proofs.laws.one_answer.Goals as goal

pub returns : goal.returns
returns c = one_answer c.one_replay.ensures
