use Rattle.m17_sender.specs.SoFar.{at_rest}
use Rattle.m17_sender.proofs.Queued.{goes_on}
use Rattle.m17_sender.proofs.sender.Sender.whole_turn.Goals as goal

pub pass_all-said-requires : goal.pass_all-said-requires
pass_all-said-requires g c =
    record { shaped = (c.pass_door-answered.ensures.goes_on c.args.kept.now.noted).grows.shaped c.requires.shaped }

pub returns-then-answered-clause-goes_on : goal.returns-then-answered-clause-goes_on
returns-then-answered-clause-goes_on g c =
    goes_on g.M.Mouth.told
    (at_rest c.args.self.now c.args.kept.now.noted) (at_rest c.pass_door-answered.new.self c.args.kept.now.noted)
    (at_rest c.pass_all-said.new.self c.pass_all-said.new.kept.noted) (c.pass_door-answered.ensures.goes_on c.args.kept.now.noted)
    c.pass_all-said.ensures.goes_on

pub returns-else-answered-clause-goes_on : goal.returns-else-answered-clause-goes_on
returns-else-answered-clause-goes_on g c =
    goes_on g.M.Mouth.told
    (at_rest c.args.self.now c.args.kept.now.noted) (at_rest c.pass_door-answered.new.self c.args.kept.now.noted)
    (at_rest c.pass_all-said.new.self c.pass_all-said.new.kept.noted) (c.pass_door-answered.ensures.goes_on c.args.kept.now.noted)
    c.pass_all-said.ensures.goes_on
