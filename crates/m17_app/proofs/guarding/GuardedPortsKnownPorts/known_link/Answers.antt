use Rattle.std.proofs.Common.{◌≡◌, ◌+◌, ◌-◌, ℕ, Bool, sym, ap, ◌∙◌}
use Rattle.std.specs.Prelude.{nat_lt}
use Rattle.m17_decorators.specs.Guarded.{GuardSeen}
use Rattle.m17_app.proofs.BothGuards.{one_later}
use Rattle.m17_app.proofs.guarding.GuardedPortsKnownPorts.known_link.Goals as goal

pub returns-in-Ok-clause-ear : goal.returns-in-Ok-clause-ear
returns-in-Ok-clause-ear g c = c.before-in-Ok.ensures.new _ c.in-Ok.ensures.ear

pub returns-in-Ok-clause-known_ear : goal.returns-in-Ok-clause-known_ear
returns-in-Ok-clause-known_ear g c = ap (λ (guard : GuardSeen _). guard.is_on) c.before-in-Ok.ensures.guard

pub returns-in-Ok-clause-more_ears : goal.returns-in-Ok-clause-more_ears
returns-in-Ok-clause-more_ears g c = λ i label known. known ∙ ap (nat_lt i) c.before-in-Ok.ensures.left ∙ one_later i c.args.self.now.guards
