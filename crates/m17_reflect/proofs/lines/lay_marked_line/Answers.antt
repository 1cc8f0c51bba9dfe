use Rattle.std.proofs.Common.{length, refl, ap, ◌∙◌, arith}
use Rattle.m17_reflect.proofs.NewLanes.{line_none, line_more}
use Rattle.m17_reflect.proofs.lines.lay_marked_line.Goals as goal

pub loop-laid-init : goal.loop-laid-init
loop-laid-init g c =
    let qs = c.in_ok-pushers in let ps = c.in_ok-poppers in
    let no_qs = ap length qs.ensures.0 in let no_ps = ap length ps.ensures.0 in record {
      line = line_none c.args.capacity qs.pushers.items ps.poppers.items qs.ensures.0 ps.ensures.0;
      pushers = (omega (arith, no_qs, qs.pushers.ok.0), qs.ensures.1);
      poppers = (omega (arith, no_ps, ps.poppers.ok.0), ps.ensures.1);
      marks = (omega (arith, c.requires.next), refl);
    }

pub loop-laid-preserved : goal.loop-laid-preserved
loop-laid-preserved g c =
    let now = c.loop-laid in let made = c.in_ok-pusher in let first = c.push_reserved in let second = c.push_reserved-in-loop-laid in record {
      line = line_more c.args.capacity now.pushers.items first.new.self.items now.poppers.items second.new.self.items made.pusher made.popper
          now.invariant.line first.ensures.items second.ensures.items made.ensures.popper made.ensures.pusher;
      pushers = (omega (arith, now.invariant.pushers.0, first.ensures.len), omega (arith, now.invariant.pushers.1, first.ensures.capacity));
      poppers = (omega (arith, now.invariant.poppers.0, second.ensures.len), omega (arith, now.invariant.poppers.1, second.ensures.capacity));
      marks = (omega (arith, now.invariant.marks.0, c.lay_one.ensures.laid), c.lay_one.ensures.lanes ∙ now.invariant.marks.1);
    }
