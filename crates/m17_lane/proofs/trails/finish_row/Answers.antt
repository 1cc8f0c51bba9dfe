use Rattle.std.proofs.Common.{◌≡◌, length, Some, sym, subst, refl, ap, arith}
use Rattle.std.proofs.lemmas.List.{length-map, nil_from_length}
use Rattle.std.proofs.lemmas.List.Elements.{All-pop}
use Rattle.m17_lane.specs.Trails.{AreTrailsOfOnes}
use Rattle.m17_lane.proofs.Returns.{ones_none, ones_more, ones_all, last_lane}
use Rattle.m17_lane.proofs.trails.finish_row.Goals as goal

pub loop-popper-init : goal.loop-popper-init
loop-popper-init g c =
    let none = ap length c.requires.empty in record {
      lanes = c.requires.lanes;
      alone = c.requires.alone;
      back = ones_none c.args.pushers.now.items c.args.poppers.now.items c.args.trails.now.items c.requires.empty;
      number = omega (arith, none, c.args.trails.now.ok.0);
      same_room = refl;
    }

pub finish_one-requires-clause-of_one_lane : goal.finish_one-requires-clause-of_one_lane
finish_one-requires-clause-of_one_lane g c =
    let two = last_lane c.loop-popper.pushers.items c.pop-in-Some.new.self.items c.loop-popper.poppers.items c.pop.new.self.items
    c.in-Some-pop.pusher c.in-Some.popper c.loop-popper.invariant.lanes c.in-Some-pop.ensures.items c.in-Some.ensures.items in
    two.1

pub loop-popper-preserved : goal.loop-popper-preserved
loop-popper-preserved g c =
    let now = c.loop-popper in let before = now.invariant in let one = c.finish_one.ensures in
    let two = last_lane now.pushers.items c.pop-in-Some.new.self.items now.poppers.items c.pop.new.self.items
    c.in-Some-pop.pusher c.in-Some.popper before.lanes c.in-Some-pop.ensures.items c.in-Some.ensures.items in record {
      lanes = two.0;
      alone = (All-pop (λ p. p.producers ≡ 1) now.poppers.items c.pop.new.self.items (Some c.in-Some.popper) c.in-Some.ensures.items before.alone).0;
      back = ones_more c.args.pushers.now.items now.pushers.items c.pop-in-Some.new.self.items c.args.poppers.now.items now.poppers.items c.pop.new.self.items
          now.trails.items c.push_reserved.new.self.items c.in-Some-pop.pusher c.in-Some.popper c.finish_one.result before.back
          c.in-Some-pop.ensures.items c.in-Some.ensures.items c.push_reserved.ensures.items (record {
            trail = record { logs = one.logs; refused = one.refused; popped = one.popped; whole = one.whole };
            order = one.order;
            settled = one.settled;
          });
      number = omega (arith, before.number, c.in-Some.ensures.len, c.push_reserved.ensures.len);
      same_room = omega (arith, before.same_room, c.push_reserved.ensures.capacity);
    }

pub returns-clause-trails : goal.returns-clause-trails
returns-clause-trails g c =
    let now = c.loop-popper in let before = now.invariant in
    let nop = nil_from_length now.poppers.items (omega (arith, now.poppers.ok.0, c.in_default.ensures.cases.0)) in
    let same = ap length before.lanes in
    let noq = nil_from_length now.pushers.items (omega (arith, same, length-map now.pushers.items (λ q. q.lane), length-map now.poppers.items (λ p. p.lane), now.poppers.ok.0, c.in_default.ensures.cases.0)) in
    subst (λ ts. AreTrailsOfOnes c.args.pushers.now.items c.args.poppers.now.items ts) (sym c.reverse.ensures.items)
    (ones_all c.args.pushers.now.items now.pushers.items c.args.poppers.now.items now.poppers.items now.trails.items before.back noq nop)
