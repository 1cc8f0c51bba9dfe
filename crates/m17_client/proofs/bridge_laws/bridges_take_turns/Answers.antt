use Rattle.m17_client.proofs.Frames.{keeps_promise}
use Rattle.m17_client.proofs.bridge_laws.bridges_take_turns.Goals as goal

pub returns : goal.returns
returns c = keeps_promise
