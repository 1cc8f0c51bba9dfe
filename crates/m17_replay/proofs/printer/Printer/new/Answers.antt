use Rattle.std.proofs.Common.{refl}
use Rattle.m17_replay.proofs.Printed.{taken_nothing}
use Rattle.m17_replay.proofs.printer.Printer.new.Goals as goal

pub returns-clause-nothing : goal.returns-clause-nothing
returns-clause-nothing c = λ told. taken_nothing _ told refl c.new.ensures refl
