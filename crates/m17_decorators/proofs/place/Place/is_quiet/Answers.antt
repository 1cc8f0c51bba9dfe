use Rattle.std.proofs.Common.{◌∙◌, sym, ap}
use Rattle.std.specs.Option.{option_copied}
use Rattle.m17_decorators.proofs.Stamps.{quiet-some, quiet-none}
use Rattle.m17_decorators.proofs.place.Place.is_quiet.Goals as goal

pub returns-in-Some : goal.returns-in-Some
returns-in-Some c = sym (quiet-some c.args.cut c.args.self.now.stamps.items c.in-Some.latest.now
    (sym c.front.ensures ∙ ap option_copied c.in-Some.is))

pub returns-in-None : goal.returns-in-None
returns-in-None c = sym (quiet-none c.args.cut c.args.self.now.stamps.items
    (sym c.front.ensures ∙ ap option_copied c.in-None.is))
