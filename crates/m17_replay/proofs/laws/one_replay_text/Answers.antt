use Rattle.m17_replay.proofs.OneText.{one_text}
use Rattle.m17_replay.proofs.laws.one_replay_text.Goals as goal

pub returns : goal.returns
returns c = one_text c.traces_are_exact.ensures c.one_replay.ensures
