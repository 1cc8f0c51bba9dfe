use Rattle.m17_reflect.proofs.LinksHeard.{headline_tells}
use Rattle.m17_reflect.proofs.laws.headline_tells.Goals as goal

pub returns : goal.returns
returns g c = headline_tells
