use Rattle.m17_house.proofs.OneReplay.{one_replay}
use Rattle.m17_house.proofs.laws.one_replay.Goals as goal

pub returns : goal.returns
returns c = one_replay c.each_entry_says_one_thing.ensures c.entries_before_decide.ensures c.ended_where_it_ends.ensures
