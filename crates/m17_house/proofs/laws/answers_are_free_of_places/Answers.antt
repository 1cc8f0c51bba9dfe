use Rattle.m17_house.proofs.FreeChoice.{replays_give_freely}
use Rattle.m17_house.proofs.FreeAnswers.{free_replays}
use Rattle.m17_house.proofs.laws.answers_are_free_of_places.Goals as goal

pub returns-clause-given : goal.returns-clause-given
returns-clause-given c = replays_give_freely

pub returns-clause-same : goal.returns-clause-same
returns-clause-same c = free_replays c.each_entry_says_one_thing.ensures c.members_change_no_verdict.ensures c.joins_take_free_places.ensures c.renaming_changes_nothing_said.ensures.said c.renaming_changes_nothing_said.ensures.verdicts
