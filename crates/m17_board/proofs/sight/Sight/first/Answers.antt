use Rattle.m17_board.proofs.Records.{first_sight}
use Rattle.m17_board.proofs.sight.Sight.first.Goals as goal

pub returns : goal.returns
returns c = first_sight
