use Rattle.std.proofs.Common.{sym, subst}
use Rattle.m17_client.specs.BridgeSteps.{AreSaidBy}
use Rattle.m17_client.proofs.CrossTurns.{at_more}
use Rattle.m17_client.proofs.bridge.Bridge.say_step.Goals as goal

pub returns : goal.returns
returns g c = λ origin steps to_is h.
    let one = c.step.ensures.stands origin.plan.ends steps h.stands in (
      one.0,
      one.1,
      one.2,
      at_more origin steps one.0 c.args.self.now c.step.new.self c.as_slice.result.now
          c.args.near_to.now c.args.far_to.now
          (g.M.Mouth.told c.args.near_mouth.now) (g.M.Mouth.told c.say_all.new.near_mouth)
          (g.M.Mouth.told c.args.far_mouth.now) (g.M.Mouth.told c.say_all.new.far_mouth)
          to_is h one.4 (subst (λ l. AreSaidBy one.0 l) (sym c.as_slice.ensures.value) one.3)
          c.say_all.ensures.near c.say_all.ensures.far,
    )
