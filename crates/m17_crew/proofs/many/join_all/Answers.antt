use Rattle.std.proofs.Common.{arith, reverse}
use Rattle.m17_crew.proofs.Moves.{joining}
use Rattle.m17_crew.proofs.many.join_all.Goals as goal

pub loop-started-preserved : goal.loop-started-preserved
loop-started-preserved g c = let before = c.loop-started.invariant in record {
  done = joining g.W.Work.does (reverse c.args.running.now.items) c.loop-started.running.items c.pop.new.self.items
      c.args.jobs.now.items c.loop-started.jobs.items c.push_reserved.new.self.items c.in-Some.started c.join.result
      before.done c.in-Some.ensures.items c.push_reserved.ensures.items c.join.ensures.done;
  number = omega (arith, before.number, c.in-Some.ensures.len, c.push_reserved.ensures.len);
  jobs_room = omega (arith, before.jobs_room, c.push_reserved.ensures.capacity);
  running_room = omega (arith, before.running_room, c.pop.ensures.capacity);
}
