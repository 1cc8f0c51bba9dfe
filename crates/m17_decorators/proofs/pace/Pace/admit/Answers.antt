use Rattle.m17_decorators.specs.PaceMemory.{stamps}
use Rattle.m17_decorators.proofs.Rule.{decides}
use Rattle.m17_decorators.proofs.pace.Pace.admit.Goals as goal

pub returns-then-passes-clause-decided : goal.returns-then-passes-clause-decided
returns-then-passes-clause-decided c past r read was =
    let m = c.args.self.now in
    decides m.most _ c.args.to.now past m.moments m.moments.last _ read r.moments c.requires.whole
    (c.admit-passes.ensures.admits (λ peer. stamps peer past) r.places) was

pub returns-else-passes-clause-decided : goal.returns-else-passes-clause-decided
returns-else-passes-clause-decided c past r read was =
    let m = c.args.self.now in
    decides m.most _ c.args.to.now past m.moments m.moments.last _ read r.moments c.requires.whole
    (c.admit-passes.ensures.admits (λ peer. stamps peer past) r.places) was
