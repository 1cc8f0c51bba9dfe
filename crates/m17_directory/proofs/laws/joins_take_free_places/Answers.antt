use Rattle.m17_directory.proofs.Freed.{joins_take_free}
use Rattle.m17_directory.proofs.laws.joins_take_free_places.Goals as goal

pub returns : goal.returns
returns c = joins_take_free
