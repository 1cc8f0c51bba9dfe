use Rattle.std.proofs.Common.{◌<◌, length, take, refl, sym, ◌∙◌, arith}
use Rattle.m17_house.specs.Hearing.{HearsMore}
use Rattle.m17_house.specs.SoFar.{scene}
use Rattle.m17_replay.proofs.UnderWay.{arrives, goes_on, has_room, never_over, sets_out}
use Rattle.m17_replay.proofs.playing.hear_each.Given as given
use Rattle.m17_replay.proofs.playing.hear_each.Goals as goal
use Rattle.m17_replay.proofs.playing.hear_each.Goals.{After-has_ended}

pub loop-index-init : goal.loop-index-init
loop-index-init g c = record {
  way = sets_out c.args.plan.now c.args.heard.now c.args.run.now c.args.mouth.now c.args.printer.now _ c.requires.run c.requires.printer;
  summary = refl;
  peers = refl;
}

pub hear-packet-requires : goal.hear-packet-requires
hear-packet-requires g c =
    let way = c.loop-index.invariant.way in
    record { so_far = (take c.loop-index.index c.args.heard.now, way.entries, sym way.count, omega (arith, way.count, c.count-few.ensures.few, c.loop-index-test.true), way.has) }

-- what this turn heard
heard_one : (g : given.Over) (c : After-has_ended g) → HearsMore c.args.plan.now (take c.loop-index.index c.args.heard.now) c.loop-index.invariant.way.entries c.index-heard-index.result (scene c.hear-packet.new.self c.hear-packet.new.mouth) (c.hear-packet.new.verdict, c.hear-packet.result)
heard_one g c =
    let way = c.loop-index.invariant.way in
    let few : length way.entries < 288230376151711744 = omega (arith, way.count, c.count-few.ensures.few, c.loop-index-test.true) in
    c.hear-packet.ensures.heard (take c.loop-index.index c.args.heard.now) way.entries (sym way.count) few way.has

pub take_last-requires : goal.take_last-requires
take_last-requires g c = record { room = has_room _ _ _ _ _ _ _ _ c.count-few.ensures.few c.loop-index-test.true c.loop-index.invariant.way }

pub take-requires : goal.take-requires
take-requires g c = record { room = has_room _ _ _ _ _ _ _ _ c.count-few.ensures.few c.loop-index-test.true c.loop-index.invariant.way }

pub loop-index-preserved : goal.loop-index-preserved
loop-index-preserved g c =
    let inv = c.loop-index.invariant in
    record {
      way = goes_on c.args.plan.now c.args.heard.now c.loop-index.index c.index-heard-index.result c.loop-index.run c.hear-packet.new.self c.loop-index.mouth c.hear-packet.new.mouth
          c.loop-index.printer c.take.new.self (g.K.Sink.told c.args.out.now) (g.K.Sink.told c.loop-index.out) (g.K.Sink.told c.take.new.out) (c.hear-packet.new.verdict, c.hear-packet.result)
          c.loop-index-test.true c.index-heard-index.is inv.way (heard_one g (goal.at.loop-index-preserved g c).After-has_ended)
          (sym c.has_ended.ensures ∙ c.if-has_ended.false) (c.take.ensures.taken _ _ inv.way.taken);
      summary = c.take.ensures.summary ∙ inv.summary;
      peers = c.hear-packet.ensures.mouth.peers ∙ inv.peers;
    }

pub returns-then-has_ended-clause-played : goal.returns-then-has_ended-clause-played
returns-then-has_ended-clause-played g c =
    let inv = c.loop-index.invariant in
    arrives c.args.plan.now c.args.heard.now c.loop-index.index c.index-heard-index.result c.loop-index.run c.hear-packet.new.self c.loop-index.mouth c.hear-packet.new.mouth
    c.loop-index.printer c.take_last.new.self (g.K.Sink.told c.args.out.now) (g.K.Sink.told c.loop-index.out) (g.K.Sink.told c.take_last.new.out) (c.hear-packet.new.verdict, c.hear-packet.result)
    c.loop-index-test.true c.index-heard-index.is inv.way (heard_one g (goal.at.returns-then-has_ended-clause-played g c).After-has_ended)
    c.is_fault-lost.result (sym c.has_ended.ensures ∙ c.if-has_ended.true) c.is_fault-lost.ensures (c.take_last.ensures.taken _ _ inv.way.taken)

pub returns-clause-played : goal.returns-clause-played
returns-clause-played g c = absurd (never_over _ _ _ _ _ _ _ _ c.requires.ends (omega arith) c.loop-index.invariant.way)
