use Rattle.m17_house.proofs.OneMore.{made_run}
use Rattle.m17_house.proofs.Played.{heard_nothing}
use Rattle.m17_house.proofs.Tallies.{none_said}
use Rattle.m17_house.specs.declared.run.Run.{Run}
use Rattle.m17_house.proofs.run.Run.make.Goals as goal

pub returns : goal.returns
returns c = λ mouth none.
    let run : Run = record { directory = c.in_ok-directory.directory; post = c.in_ok-post.post; stage = c.in_ok-stage.stage; given = c.no_counts.result; taken = c.no_marks.result } in
    heard_nothing c.args.plan.now run mouth
    (made_run c.args.plan.now run mouth
    c.requires c.in_ok-directory.ensures.setup c.in_ok-directory.ensures.stands c.in_ok-directory.ensures.nothing_asked c.in_ok-directory.ensures.nobody_departing c.in_ok-directory.ensures.nobody_known
    c.in_ok-stage.ensures.name (c.in_ok-stage.ensures.carried mouth (none_said mouth none)) c.no_counts.ensures.cells c.no_counts.ensures.none c.no_marks.ensures)
    c.in_ok-post.ensures c.in_ok-stage.ensures.out c.in_ok-directory.ensures.ended
