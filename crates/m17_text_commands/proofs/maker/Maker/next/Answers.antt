-- What is heard is what the rule has for the seed, and the maker goes on as it has.
use Rattle.std.proofs.Common.{◌≡◌, ap, ap₂, ◌∙◌}
use Rattle.m17_text_commands.specs.Moments.{entry_moment}
use Rattle.m17_text_commands.specs.Made.{heard_as}
use Rattle.m17_text_commands.specs.Maker.{Evening}
use Rattle.m17_text_commands.proofs.Followed.{heard_is, drawn_on, entry_after}
use Rattle.m17_text_commands.proofs.maker.Maker.next.Goals as goal

pub returns-clause-heard : goal.returns-clause-heard
returns-clause-heard c = λ seed drawn.
    let at : c.moment-at.result ≡ entry_moment c.args.self.now.entry = c.moment-at.ensures ∙ ap (λ (e : Evening). entry_moment e.entry) c.self.view_is in
    c.heard.ensures.heard ∙ ap₂ heard_as at c.make.ensures.made ∙ heard_is seed c.args.self.now drawn

pub returns-clause-drawn : goal.returns-clause-drawn
returns-clause-drawn c = λ seed drawn. drawn_on seed c.args.self.now c.make.new.self c.make.ensures.after drawn

pub returns-clause-entry : goal.returns-clause-entry
returns-clause-entry c = ap (λ (e : Evening). e.entry) c.make.ensures.after ∙ entry_after c.args.self.now
