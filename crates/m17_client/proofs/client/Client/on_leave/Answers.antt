use Rattle.std.proofs.Common.{refl}
use Rattle.m17_client.proofs.client.Client.on_leave.Goals as goal

pub returns-clause-step : goal.returns-clause-step
returns-clause-step c = (c.leave-answer.result, c.leave-answer.ensures, rw (c.put.ensures, c.requires) refl)
