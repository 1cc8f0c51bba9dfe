use Rattle.m17_sender.specs.SoFar.{at_rest}
use Rattle.m17_sender.proofs.Queued.{goes_on}
use Rattle.m17_sender.proofs.sender.Sender.pass_marked.Goals as goal

pub loop-tried-preserved : goal.loop-tried-preserved
loop-tried-preserved g c = record {
  shaped = c.try_number.ensures.goes_on.grows.shaped c.loop-tried.invariant.shaped;
  goes_on = goes_on g.M.Mouth.told
      (at_rest c.args.self.now c.args.kept.now.noted) (at_rest c.loop-tried.self c.loop-tried.kept.noted)
      (at_rest c.try_number.new.self c.try_number.new.kept.noted) c.loop-tried.invariant.goes_on c.try_number.ensures.goes_on;
}
