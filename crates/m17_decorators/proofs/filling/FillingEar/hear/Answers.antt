use Rattle.m17_decorators.proofs.Hearing.{heard_more}
use Rattle.m17_decorators.proofs.filling.FillingEar.hear.Goals as goal

pub returns-clause-appended : goal.returns-clause-appended
returns-clause-appended g c =
    rw (← c.self.view_is, c.pass.ensures.same, c.pass.ensures.filled)
    (heard_more c.self.inside.fills (g.E.Ear.told c.self.inside.inner).heard
    (g.E.Ear.told c.hear-heard.new.self).heard
    c.hear-heard.result c.hear-heard.ensures.appended)
