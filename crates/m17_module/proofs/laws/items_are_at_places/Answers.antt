use Rattle.m17_module.proofs.ItemsHold.{items_are_at_places}
use Rattle.m17_module.proofs.laws.items_are_at_places.Goals as goal

pub returns : goal.returns
returns c = items_are_at_places
