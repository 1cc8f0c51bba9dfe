use Rattle.m17_decorators.proofs.Rule.{read-holds}
use Rattle.m17_decorators.proofs.PaceStanding.{later-holds}
use Rattle.m17_decorators.proofs.pace.Pace.look.Goals as goal

pub returns-in-Some-clause-remembered : goal.returns-in-Some-clause-remembered
returns-in-Some-clause-remembered g c past r =
    let old = c.args.self.now in
    let new = c.learn.new.self in
    record {
      moments = c.learn.ensures.learned past r.moments;
      places = read-holds old.most new.cut new.last c.in-Some.at past old.places.list.items
          (later-holds old.most old.moments.cut old.moments.last new.cut new.last _
          old.places.list.items c.learn.ensures.cut c.learn.ensures.now r.places);
    }
