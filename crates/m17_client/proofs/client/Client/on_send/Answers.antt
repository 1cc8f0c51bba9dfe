use Rattle.std.proofs.Common.{refl}
use Rattle.m17_client.proofs.client.Client.on_send.Goals as goal

pub returns-clause-step : goal.returns-clause-step
returns-clause-step c = (c.send-answer.result, c.send-answer.ensures, rw (c.put.ensures, c.requires) refl)
