use Rattle.std.proofs.Common.{refl}
use Rattle.m17_client.proofs.client.Client.on_quiet.Goals as goal

pub returns-clause-step : goal.returns-clause-step
returns-clause-step c = (c.tick-tick.result, c.tick-tick.ensures, rw (c.put.ensures, c.requires) refl)
