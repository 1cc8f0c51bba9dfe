use Rattle.std.proofs.Common.{refl, ◌∙◌, sym, arith}
use Rattle.m17_decorators.proofs.Times.{forgets-first, starts-some}
use Rattle.m17_decorators.proofs.moments.Moments.forget.Goals as goal

pub forget-init : goal.forget-init
forget-init c = (record { up = c.requires; on = omega arith; below = λ f le. refl }, refl, refl)

pub forget_first-requires : goal.forget_first-requires
forget_first-requires c = starts-some c.args.from c.forget.self.later.items
    (sym c.is_early.ensures ∙ c.forget-test.true)

pub forget-preserved : goal.forget-preserved
forget-preserved c =
    let made = c.forget_first.ensures in (
      forgets-first c.args.from c.args.self.now.cut c.args.self.now.later.items
          c.args.self.now.last c.forget.self.cut c.forget.self.later.items
          c.forget_first.new.self.cut c.forget_first.new.self.later.items c.forget.invariant.0
          made.first (sym c.is_early.ensures ∙ c.forget-test.true),
      made.now ∙ c.forget.invariant.1,
      made.room ∙ c.forget.invariant.2,
    )
