use Rattle.std.proofs.Common.{◌≡◌, ◌≢◌, ◌-◌, ◌^◌, true, sym, ap, ◌∙◌}
use Rattle.std.specs.Prelude.{is_some, IsTrue}
use Rattle.m17_decorators.specs.Guarded.{GuardSeen}
use Rattle.m17_decorators.proofs.Telling.{clash}
use Rattle.m17_decorators.proofs.Ends.{step-of, not-past, over-told, more-told, step-more}
use Rattle.m17_decorators.proofs.guarded.GuardedEar.hear.Goals as goal

pub returns-then-is_over-clause-appended : goal.returns-then-is_over-clause-appended
returns-then-is_over-clause-appended g c =
    let told = (g.E.Ear.told c.self.inside.inner).heard in
    over-told c.in-Some.memory c.args.self.now.is_on (g.E.Ear.told c.args.self.now.inner).heard told _
    (ap (λ v. v.is_on) (sym c.self.view_is) ∙ ap is_some c.in-Some.is)
    (ap (λ v. (g.E.Ear.told v.inner).heard) (sym c.self.view_is))
    (step-of c.self.inside.memory c.in-Some.memory told c.in-Some.is c.self.invariant)
    (c.is_over.ensures.0 c.if-is_over.true)

pub invariant_of-self-in-Some : goal.invariant_of-self-in-Some
invariant_of-self-in-Some g c =
    let told = (g.E.Ear.told c.self.inside.inner).heard in
    let step = step-of c.self.inside.memory c.in-Some.memory told c.in-Some.is c.self.invariant in
    let few : c.in-Some.memory.ends ≢ 2 ^ 64 - 1 = λ e.
    clash c.is_over.result (c.is_over.ensures.1 e) c.if-is_over.false in (
      c.pass.ensures.whole,
      step-more c.in-Some.memory c.pass.new.memory told (g.E.Ear.told c.hear-heard.new.self).heard
          c.hear-heard.result step.1
          (c.hear-heard.ensures.appended (not-past c.in-Some.memory told step.1 few))
          c.pass.ensures.remembers,
    )

pub returns-else-is_over-clause-appended : goal.returns-else-is_over-clause-appended
returns-else-is_over-clause-appended g c past =
    let told = (g.E.Ear.told c.self.inside.inner).heard in
    let step = step-of c.self.inside.memory c.in-Some.memory told c.in-Some.is c.self.invariant in
    let few : c.in-Some.memory.ends ≢ 2 ^ 64 - 1 = λ e.
    clash c.is_over.result (c.is_over.ensures.1 e) c.if-is_over.false in
    more-told c.in-Some.memory c.args.self.now.is_on (g.E.Ear.told c.args.self.now.inner).heard told
    (g.E.Ear.told c.hear-heard.new.self).heard c.hear-heard.result c.pass.result
    (ap (λ v. v.is_on) (sym c.self.view_is) ∙ ap is_some c.in-Some.is)
    (ap (λ v. (g.E.Ear.told v.inner).heard) (sym c.self.view_is))
    step few c.hear-heard.ensures.appended c.pass.ensures.guarded
