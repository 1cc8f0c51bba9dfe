use Rattle.m17_directory.proofs.LawRouted.{carry_index}
use Rattle.m17_directory.proofs.laws.events_carry_their_index.Goals as goal

pub returns : goal.returns
returns c = carry_index
