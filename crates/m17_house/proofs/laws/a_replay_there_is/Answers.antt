use Rattle.m17_house.proofs.ThereIs.{there_is}
use Rattle.m17_house.proofs.laws.a_replay_there_is.Goals as goal

pub returns : goal.returns
returns c = there_is c.each_entry_says_one_thing.ensures c.entries_before_decide.ensures c.ended_where_it_ends.ensures
