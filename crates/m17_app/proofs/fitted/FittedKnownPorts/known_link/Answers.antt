use Rattle.m17_app.proofs.fitted.FittedKnownPorts.known_link.Goals as goal

pub returns-in-Ok-clause-ear : goal.returns-in-Ok-clause-ear
returns-in-Ok-clause-ear g c = c.fit.ensures.new_ear _ c.in-Ok.ensures.ear

pub returns-in-Ok-clause-mouth : goal.returns-in-Ok-clause-mouth
returns-in-Ok-clause-mouth g c = c.fit.ensures.new_mouth _ c.in-Ok.ensures.mouth
