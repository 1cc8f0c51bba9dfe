use Rattle.m17_reflect.proofs.RunLaws.{runs_hold}
use Rattle.m17_reflect.proofs.laws.runs_hold_their_trails.Goals as goal

pub returns : goal.returns
returns g c = runs_hold c.items_are_at_places.ensures
