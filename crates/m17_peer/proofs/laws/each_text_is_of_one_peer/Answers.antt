use Rattle.m17_peer.proofs.OneText.{one_text}
use Rattle.m17_peer.proofs.laws.each_text_is_of_one_peer.Goals as goal

pub returns : goal.returns
returns c = one_text
