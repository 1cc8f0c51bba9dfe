use Rattle.std.proofs.Common.{rules, ap, ◌∙◌, ◌++◌}
use Rattle.m17_board.specs.Ends.{EyeEnd}
use Rattle.m17_board.specs.Glance.{glance_of}
use Rattle.m17_board.proofs.Moves.{looking}
use Rattle.m17_board.proofs.eye.Eye.look.Goals as goal

pub load_as-words-requires : goal.load_as-words-requires
load_as-words-requires g c = (search rules, (search rules, (search rules, looking _ _ c.self.invariant.reads)))

pub returns : goal.returns
returns g c =
    let t = c.load_as-words.ensures.rule in
    (t.0, search rules, c.of_words.ensures _ t.2 ∙ ap (λ (v : EyeEnd). glance_of (v.known ++ t.0)) c.self.view_is)
