use Rattle.std.proofs.Common.{◌≡◌, sym, subst, IfOk}
use Rattle.m17_plan.specs.Planned.{IsPlan}
use Rattle.m17_run_tests.proofs.wiring_tests.ready.Goals as goal

pub staff-requires-clause-plan : goal.staff-requires-clause-plan
staff-requires-clause-plan g c κs =
    let same = subst (λ made. IfOk made (λ site. site.plan ≡ c.plan-plan.result)) c.must-site.ensures c.prepare.ensures.plan in
    subst IsPlan (sym same) c.plan-plan.ensures.plan
