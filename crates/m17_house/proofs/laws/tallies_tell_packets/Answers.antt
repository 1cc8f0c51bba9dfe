use Rattle.m17_house.proofs.ToldTallies.{tallies_tell}
use Rattle.m17_house.proofs.laws.tallies_tell_packets.Goals as goal

pub returns : goal.returns
returns c = tallies_tell
