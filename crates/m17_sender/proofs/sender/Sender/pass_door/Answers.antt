use Rattle.std.proofs.Common.{[]}
use Rattle.m17_sender.specs.SoFar.{at_rest}
use Rattle.m17_sender.proofs.Queued.{goes_on}
use Rattle.m17_sender.proofs.sender.Sender.pass_door.Goals as goal

pub returns-then-not-take_reply : goal.returns-then-not-take_reply
returns-then-not-take_reply g c = record {
  goes_on = λ noted.
      goes_on g.M.Mouth.told
      (at_rest c.args.self.now noted) (at_rest c.loop-taken.self noted) (at_rest c.take_reply.new.self noted)
      (c.loop-taken.invariant.goes_on noted) (c.take_reply.ensures.goes_on noted);
}

pub loop-taken-preserved : goal.loop-taken-preserved
loop-taken-preserved g c = record {
  shaped = (c.take_reply.ensures.goes_on []).grows.shaped c.loop-taken.invariant.shaped;
  goes_on = λ noted.
      goes_on g.M.Mouth.told
      (at_rest c.args.self.now noted) (at_rest c.loop-taken.self noted) (at_rest c.take_reply.new.self noted)
      (c.loop-taken.invariant.goes_on noted) (c.take_reply.ensures.goes_on noted);
}
