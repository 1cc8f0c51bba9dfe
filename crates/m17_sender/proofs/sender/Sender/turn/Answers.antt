use Rattle.m17_sender.specs.SoFar.{at_rest}
use Rattle.m17_sender.proofs.Queued.{goes_on}
use Rattle.m17_sender.proofs.sender.Sender.turn.Goals as goal

pub pass_marked-said-requires : goal.pass_marked-said-requires
pass_marked-said-requires g c =
    record { shaped = (c.pass_door-answered.ensures.goes_on c.args.kept.now.noted).grows.shaped c.requires.shaped }

pub returns-then-answered : goal.returns-then-answered
returns-then-answered g c = record {
  goes_on = goes_on g.M.Mouth.told
      (at_rest c.args.self.now c.args.kept.now.noted) (at_rest c.pass_door-answered.new.self c.args.kept.now.noted)
      (at_rest c.pass_marked-said.new.self c.pass_marked-said.new.kept.noted) (c.pass_door-answered.ensures.goes_on c.args.kept.now.noted)
      c.pass_marked-said.ensures.goes_on;
}

pub returns-else-answered : goal.returns-else-answered
returns-else-answered g c = record {
  goes_on = goes_on g.M.Mouth.told
      (at_rest c.args.self.now c.args.kept.now.noted) (at_rest c.pass_door-answered.new.self c.args.kept.now.noted)
      (at_rest c.pass_marked-said.new.self c.pass_marked-said.new.kept.noted) (c.pass_door-answered.ensures.goes_on c.args.kept.now.noted)
      c.pass_marked-said.ensures.goes_on;
}
