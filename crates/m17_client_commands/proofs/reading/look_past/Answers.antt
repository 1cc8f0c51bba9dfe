use Rattle.std.proofs.Common.{refl}
use Rattle.m17_client_commands.proofs.Stops.{nothing_past}
use Rattle.m17_client_commands.proofs.reading.look_past.Goals as goal

pub returns-in-Ok-eq0-clause-looks : goal.returns-in-Ok-eq0-clause-looks
returns-in-Ok-eq0-clause-looks g c = λ left told. nothing_past left _ _ c.in-Ok-eq0.field-0 _ refl c.in-Ok-eq0.field-0-test (c.in-Ok-eq0.ensures.filled left told)
