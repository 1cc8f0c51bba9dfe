use Rattle.m17_receiver.proofs.Letters.{ranked_at}
use Rattle.m17_receiver.proofs.posting.inbox_of.Goals as goal

pub returns : goal.returns
returns c = ranked_at c.args.modules c.args.letter c.rank.result c.requires c.rank.ensures
