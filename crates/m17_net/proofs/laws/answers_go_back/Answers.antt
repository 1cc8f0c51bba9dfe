use Rattle.m17_net.proofs.Going.{answers-go-back}
use Rattle.m17_net.proofs.laws.answers_go_back.Goals as goal

pub returns : goal.returns
returns c = answers-go-back
