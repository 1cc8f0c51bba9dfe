use Rattle.std.proofs.Common.{rules}
use Rattle.std.specs.IoError.{error_kind}
use Rattle.m17_net.specs.Wire.{IsPassing}
use Rattle.m17_net.proofs.Tries.{tries-again, lets-go}
use Rattle.m17_net.proofs.taking.send_one.Goals as goal

pub returns-in-Waited : goal.returns-in-Waited
returns-in-Waited g c = record {
  sent = tt;
  nothing_sent = search rules;
  nothing_taken = search rules;
  sound = search rules;
  gone_on = tt;
  given_up = lets-go IsPassing 16 c.loop.counter (g.W.Wire.unsent c.args.wire.now) (g.W.Wire.unsent c.loop.wire)
      (g.W.Wire.unsent c.send.new.self) (error_kind c.in-Err.e) c.loop.invariant.unsent (search rules)
      c.in-Err.ensures.unsent (search rules);
}

pub loop-preserved : goal.loop-preserved
loop-preserved g c = record {
  taken = search rules;
  sent = search rules;
  broken = search rules;
  unsent = tries-again IsPassing c.loop.counter (g.W.Wire.unsent c.args.wire.now) (g.W.Wire.unsent c.loop.wire)
      (g.W.Wire.unsent c.send.new.self) (error_kind c.in-Err.e) c.loop.invariant.unsent
      c.in-Err.ensures.unsent (search rules);
}
