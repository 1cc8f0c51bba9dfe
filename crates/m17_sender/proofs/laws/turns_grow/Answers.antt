use Rattle.m17_sender.proofs.Grown.{none_in_turn, one_more_in_turn, bye_said, bye_still}
use Rattle.m17_sender.proofs.laws.turns_grow.Goals as goal

pub returns : goal.returns
returns c = record {
  none = none_in_turn;
  one_more = one_more_in_turn;
  bye = bye_said;
  still = bye_still;
}
