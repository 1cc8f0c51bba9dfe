-- Whether something stops the ears of ports, for the code alone.
use Rattle.std.specs.Prelude.{Bool, true, false}
use Rattle.m17_net.specs.declared.ports.Stopping.{Stopping}
use Rattle.m17_net.specs.declared.ports.Stopping.TheVariants.{Never, By, InVain}

abbrev pub stops : Stopping → Bool
stops Never = false
stops (By stop) = stop.there
stops InVain = true
