use Rattle.std.proofs.Common.{arith, Some, ◌++◌, reverse}
use Rattle.std.proofs.lemmas.List.Elements.{All-pop}
use Rattle.m17_crew.proofs.Moves.{starting}
use Rattle.m17_crew.proofs.many.start_all.Goals as goal

pub loop-job-preserved : goal.loop-job-preserved
loop-job-preserved g c = let before = c.loop-job.invariant in let left = c.in-Some.ensures.items in record {
  jobs = starting (c.args.jobs.now.items ++ reverse c.args.running.now.items) c.loop-job.jobs.items c.pop.new.self.items
      c.loop-job.running.items c.push_reserved.new.self.items c.in-Some.job c.in-Ok.started before.jobs left
      c.push_reserved.ensures.items c.in-Ok.ensures.job;
  ready = (All-pop g.W.Work.ready c.loop-job.jobs.items c.pop.new.self.items (Some c.in-Some.job) left before.ready).0;
  number = omega (arith, before.number, c.in-Some.ensures.len, c.push_reserved.ensures.len);
  jobs_room = omega (arith, before.jobs_room, c.pop.ensures.capacity);
  running_room = omega (arith, before.running_room, c.push_reserved.ensures.capacity);
  refusals = omega (arith, before.refusals, c.in-Ok.ensures.cause.no_fault);
}
