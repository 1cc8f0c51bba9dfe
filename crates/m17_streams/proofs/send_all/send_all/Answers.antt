use Rattle.std.proofs.Common.{rules, arith}
use Rattle.std.proofs.lemmas.Grind.{common_steps}
use Rattle.std.proofs.lemmas.List.{take_rest}
use Rattle.m17_streams.proofs.Holding.{followed-step}
use Rattle.m17_streams.proofs.send_all.send_all.Goals as goal

pub loop-done-preserved : goal.loop-done-preserved
loop-done-preserved g c = record {
  within = grind (arith, common_steps);
  sent = let there = rw (take_rest c.args.bytes.now c.loop-done.done) at c.in-Ok.ensures.ok in
      followed-step (g.O.Outlet.told c.args.out.now).sent (g.O.Outlet.told c.loop-done.out).sent _ c.args.bytes.now c.loop-done.done c.in-Ok.n
      c.loop-done.invariant.sent there;
  sound = search rules;
}
