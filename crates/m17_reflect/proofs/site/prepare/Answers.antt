use Rattle.std.proofs.Common.{◌≤◌, subst, arith}
use Rattle.m17_reflect.specs.Ends.{AreLaid}
use Rattle.m17_reflect.specs.Lanes.{ends_in}
use Rattle.m17_reflect.specs.Rooms.{HasRooms}
use Rattle.m17_reflect.specs.Site.{IsVacant}
use Rattle.m17_reflect.specs.Taken.{HaveModules}
use Rattle.m17_reflect.proofs.NewLanes.{marks_fit, few_modules}
use Rattle.m17_reflect.proofs.site.prepare.Goals as goal

pub vacant_staff-requires-clause-modules : goal.vacant_staff-requires-clause-modules
vacant_staff-requires-clause-modules g c = omega (arith, c.count-modules.ensures, few_modules c.args.plan.now.modules)

pub lay_lanes-requires-clause-fits : goal.lay_lanes-requires-clause-fits
lay_lanes-requires-clause-fits g c =
    let few : c.count-modules.result ≤ 26 = omega (arith, c.count-modules.ensures, few_modules c.args.plan.now.modules) in
    marks_fit c.count-modules.result c.args.plan.now.places few (omega (arith, c.requires.plan.at_most))

pub make_bare-requires-clause-laid : goal.make_bare-requires-clause-laid
make_bare-requires-clause-laid g c =
    subst (λ n. AreLaid c.args.links n c.args.plan.now.places (ends_in c.in_ok-lanes.lanes)) c.count-modules.ensures c.in_ok-lanes.ensures.laid

pub make_bare-requires-clause-modules_have : goal.make_bare-requires-clause-modules_have
make_bare-requires-clause-modules_have g c =
    subst (λ n. HaveModules n c.in_ok-lanes.lanes.modules) c.count-modules.ensures c.in_ok-lanes.ensures.modules

pub returns-clause-site : goal.returns-clause-site
returns-clause-site g c =
    let b = c.in_ok-bare.ensures in let s = c.in_ok-staffed in let modules = c.count-modules.ensures in record {
      made = b.bare;
      to_receivers = b.to_receivers;
      to_workers = b.to_workers;
      to_sender = b.to_sender;
      receivers = s.ensures.receivers;
      workers = subst (λ n. IsVacant n s.staffed.workers.jobs s.staffed.workers.running) modules s.ensures.workers;
      sender = s.ensures.sender;
      rooms = subst (λ n. HasRooms c.args.links n c.args.plan.now.places s.staffed.rooms) modules s.ensures.rooms;
    }
