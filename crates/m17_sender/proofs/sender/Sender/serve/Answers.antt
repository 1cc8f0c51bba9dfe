use Rattle.std.proofs.Common.{sym, subst}
use Rattle.m17_sender.specs.SoFar.{at_rest, HasPassed}
use Rattle.m17_crew.specs.declared.order.Order.{Order}
use Rattle.m17_lane.specs.Ends.{PopEnd}
use Rattle.m17_sender.proofs.Ended.{other_order, passed_on, passed_stop}
use Rattle.m17_sender.proofs.Queued.{grows_on}
use Rattle.m17_sender.proofs.sender.Sender.serve.Goals as goal

pub returns-then-hears_stop-clause-stopped : goal.returns-then-hears_stop-clause-stopped
returns-then-hears_stop-clause-stopped g c =
    passed_stop c.args.self.now.order c.loop.self.order c.hears_stop.new.orders c.loop.invariant.passed c.if-hears_stop.ensures

pub loop-preserved-then-not-turn : goal.loop-preserved-then-not-turn
loop-preserved-then-not-turn g c =
    let between = grows_on g.M.Mouth.told
    (at_rest c.args.self.now c.args.kept.now.noted) (at_rest c.loop.self c.loop.kept.noted)
    (at_rest (record c.loop.self { hint = c.look.new.self; order = c.hears_stop.new.orders }) c.loop.kept.noted) c.loop.invariant.grows
    (other_order g.M.Mouth.told c.loop.self c.hears_stop.new.orders c.look.new.self c.loop.kept.noted) in record {
      shaped = c.turn.ensures.goes_on.grows.shaped (between.shaped c.requires.shaped);
      grows = grows_on g.M.Mouth.told
          (at_rest c.args.self.now c.args.kept.now.noted) (at_rest (record c.loop.self { hint = c.look.new.self; order = c.hears_stop.new.orders }) c.loop.kept.noted)
          (at_rest c.turn.new.self c.turn.new.kept.noted) between c.turn.ensures.goes_on.grows;
      passed = subst (λ (o : PopEnd Order). HasPassed c.args.self.now.order o) (sym c.turn.ensures.goes_on.same_order)
          (passed_on c.args.self.now.order c.loop.self.order c.hears_stop.new.orders c.loop.invariant.passed c.if-hears_stop.ensures);
    }

pub loop-preserved : goal.loop-preserved
loop-preserved g c =
    let between = grows_on g.M.Mouth.told
    (at_rest c.args.self.now c.args.kept.now.noted) (at_rest c.loop.self c.loop.kept.noted)
    (at_rest (record c.loop.self { hint = c.look.new.self; order = c.hears_stop.new.orders }) c.loop.kept.noted) c.loop.invariant.grows
    (other_order g.M.Mouth.told c.loop.self c.hears_stop.new.orders c.look.new.self c.loop.kept.noted) in record {
      shaped = c.turn.ensures.goes_on.grows.shaped (between.shaped c.requires.shaped);
      grows = grows_on g.M.Mouth.told
          (at_rest c.args.self.now c.args.kept.now.noted) (at_rest (record c.loop.self { hint = c.look.new.self; order = c.hears_stop.new.orders }) c.loop.kept.noted)
          (at_rest c.turn.new.self c.turn.new.kept.noted) between c.turn.ensures.goes_on.grows;
      passed = subst (λ (o : PopEnd Order). HasPassed c.args.self.now.order o) (sym c.turn.ensures.goes_on.same_order)
          (passed_on c.args.self.now.order c.loop.self.order c.hears_stop.new.orders c.loop.invariant.passed c.if-hears_stop.ensures);
    }
