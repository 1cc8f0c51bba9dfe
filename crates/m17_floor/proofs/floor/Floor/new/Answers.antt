use Rattle.std.proofs.Common.{None, ap, sym, ◌∙◌}
use Rattle.m17_floor.proofs.NoPacket.{no_floor_frame}
use Rattle.m17_floor.proofs.Standing.{state}
use Rattle.m17_floor.proofs.floor.Floor.new.Goals as goal

pub returns-clause-stands : goal.returns-clause-stands
returns-clause-stands c = λ setup acts same h. ap (λ x. state x None) (sym same) ∙ ap (state setup.limit) (sym (no_floor_frame setup acts h))
