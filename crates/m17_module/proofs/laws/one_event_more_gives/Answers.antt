use Rattle.m17_module.proofs.ItemsMore.{given_more, shared_more}
use Rattle.m17_module.proofs.laws.one_event_more_gives.Goals as goal

pub returns-clause-given : goal.returns-clause-given
returns-clause-given c = given_more c.later_events_change_no_items.ensures

pub returns-clause-shared : goal.returns-clause-shared
returns-clause-shared c = shared_more c.later_events_change_no_items.ensures
