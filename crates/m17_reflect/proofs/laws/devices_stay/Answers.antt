use Rattle.m17_reflect.proofs.RunLaws.{devices_stay}
use Rattle.m17_reflect.proofs.laws.devices_stay.Goals as goal

pub returns : goal.returns
returns g c = devices_stay
