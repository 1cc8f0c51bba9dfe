use Rattle.m17_house.proofs.Carries.{carried_nothing}
use Rattle.m17_house.proofs.stage.Stage.make.Goals as goal

pub returns-clause-carried : goal.returns-clause-carried
returns-clause-carried c = carried_nothing c.args.plan.now c.in_ok-rooms.rooms c.in_ok-rooms.ensures
