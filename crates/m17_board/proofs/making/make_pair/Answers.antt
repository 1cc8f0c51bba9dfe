use Rattle.std.proofs.Common.{[], rules, ap, ◌∙◌}
use Rattle.m17_board.specs.Glance.{glance_words}
use Rattle.m17_board.proofs.Moves.{begins, telling}
use Rattle.m17_board.proofs.making.make_pair.Goals as goal

pub ruled-requires : goal.ruled-requires
ruled-requires c =
    (search rules, (search rules, begins _ (c.to_words.ensures.words ∙ ap glance_words (c.glance.ensures [] c.first-sight.ensures)) c.to_words.ensures.within))

pub split_pass-sees-requires : goal.split_pass-sees-requires
split_pass-sees-requires c = (search rules, (search rules, (search rules, telling _ _)))
