use Rattle.std.proofs.Common.{subst}
use Rattle.m17_decorators.specs.PaceMemory.{IsPacing}
use Rattle.m17_decorators.proofs.Paces.{let-none, let-some}
use Rattle.m17_decorators.proofs.paced.Paced.lets.Goals as goal

pub returns-in-Some : goal.returns-in-Some
returns-in-Some g c =
    let i = c.self.inside in
    let e = c.passes.ensures in
    let-some g.C.Stopwatch.answers i.inner i.clock c.passes.new.clock i.most i.refused i.memory
    c.in-Some.pace c.passes.new.self c.args.to.now c.passes.result.0 c.passes.result.1 c.in-Some.is
    (subst (IsPacing i.most) c.in-Some.is c.self.invariant).1
    e.decided e.remembered e.read e.places
    c.args.self.now c.self.view_is

pub returns-in-None : goal.returns-in-None
returns-in-None g c =
    let i = c.self.inside in
    let-none g.C.Stopwatch.answers i.inner i.clock i.most i.refused i.memory c.args.to.now
    c.in-None.is c.args.self.now c.self.view_is
