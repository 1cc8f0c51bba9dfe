use Rattle.m17_replay.proofs.FreeText.{text_is_free}
use Rattle.m17_replay.proofs.laws.replay_text_is_free_of_places.Goals as goal

pub returns : goal.returns
returns c = text_is_free c.traces_are_exact.ensures c.answers_are_free_of_places.ensures.given c.answers_are_free_of_places.ensures.same
