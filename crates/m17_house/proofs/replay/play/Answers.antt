use Rattle.std.proofs.Common.{◌<◌, length, take, sym, ◌∙◌, arith}
use Rattle.m17_house.specs.Hearing.{HearsMore}
use Rattle.m17_house.specs.SoFar.{scene}
use Rattle.m17_house.proofs.UnderWay.{arrives, goes_on, never_over}
use Rattle.m17_house.proofs.replay.play.Goals as goal
use Rattle.m17_house.proofs.replay.play.Goals.{After-has_ended}

pub hear-packet-requires : goal.hear-packet-requires
hear-packet-requires c =
    let way = c.loop-index.invariant.0 in
    record { so_far = (take c.loop-index.index c.args.heard.now, way.entries, sym way.count, omega (arith, way.count, c.count-few.ensures.few, c.loop-index-test.true), way.has) }

-- what this turn heard
heard_one : (c : After-has_ended) → HearsMore c.args.plan.now (take c.loop-index.index c.args.heard.now) c.loop-index.invariant.0.entries c.index-heard-index.result (scene c.hear-packet.new.self c.hear-packet.new.mouth) (c.hear-packet.new.verdict, c.hear-packet.result)
heard_one c =
    let way = c.loop-index.invariant.0 in
    let few : length way.entries < 288230376151711744 = omega (arith, way.count, c.count-few.ensures.few, c.loop-index-test.true) in
    c.hear-packet.ensures.heard (take c.loop-index.index c.args.heard.now) way.entries (sym way.count) few way.has

pub loop-index-preserved : goal.loop-index-preserved
loop-index-preserved c =
    let inv = c.loop-index.invariant in (
      goes_on c.args.plan.now c.args.heard.now c.loop-index.index c.index-heard-index.result c.loop-index.run c.hear-packet.new.self c.loop-index.mouth c.hear-packet.new.mouth
          c.loop-index.verdicts.items c.push_reserved.new.self.items c.loop-index.packets.items c.push_reserved-in-loop-index.new.self.items (c.hear-packet.new.verdict, c.hear-packet.result)
          c.loop-index-test.true c.index-heard-index.is inv.0 (heard_one (goal.at.loop-index-preserved c).After-has_ended) c.push_reserved.ensures.items c.push_reserved-in-loop-index.ensures.items
          (sym c.has_ended.ensures ∙ c.if-has_ended.false),
      omega (arith, inv.1, c.push_reserved.ensures.capacity),
      omega (arith, inv.2, c.push_reserved-in-loop-index.ensures.capacity),
      omega (arith, inv.3, c.push_reserved.ensures.len),
      omega (arith, inv.4, c.push_reserved-in-loop-index.ensures.len),
      record { peers = c.hear-packet.ensures.mouth.peers ∙ inv.5.peers; number = c.hear-packet.ensures.mouth.number ∙ inv.5.number },
    )

pub returns-then-has_ended-clause-judged : goal.returns-then-has_ended-clause-judged
returns-then-has_ended-clause-judged c =
    arrives c.args.plan.now c.args.heard.now c.loop-index.index c.index-heard-index.result c.loop-index.run c.hear-packet.new.self c.loop-index.mouth c.hear-packet.new.mouth
    c.loop-index.verdicts.items c.push_reserved.new.self.items c.loop-index.packets.items c.push_reserved-in-loop-index.new.self.items (c.hear-packet.new.verdict, c.hear-packet.result)
    c.loop-index-test.true c.index-heard-index.is c.loop-index.invariant.0 (heard_one (goal.at.returns-then-has_ended-clause-judged c).After-has_ended) c.push_reserved.ensures.items c.push_reserved-in-loop-index.ensures.items
    (sym c.has_ended.ensures ∙ c.if-has_ended.true)

pub returns-clause-judged : goal.returns-clause-judged
returns-clause-judged c = absurd (never_over _ _ _ _ _ _ _ c.requires.ends (omega arith) c.loop-index.invariant.0)
