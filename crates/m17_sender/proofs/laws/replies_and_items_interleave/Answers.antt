use Rattle.m17_sender.proofs.Marked.{interleave}
use Rattle.m17_sender.proofs.laws.replies_and_items_interleave.Goals as goal

pub returns : goal.returns
returns c = interleave
