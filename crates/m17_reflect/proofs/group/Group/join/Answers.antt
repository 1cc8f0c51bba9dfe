use Rattle.std.proofs.Common.{[], refl, ◌∙◌}
use Rattle.std.proofs.lemmas.List.{append-nil}
use Rattle.m17_reflect.proofs.group.Group.join.Goals as goal

pub returns-clause-back : goal.returns-clause-back
returns-clause-back g c = λ jobs e.
    c.jobs_come_back_in_order.ensures jobs [] c.args.self.now.jobs.items c.args.self.now.running.items c.join_all.new.jobs.items
    (record { none_before = refl; started_in_order = append-nil jobs ∙ e; joined = c.join_all.ensures.done })

pub returns-clause-done : goal.returns-clause-done
returns-clause-done g c = λ jobs e none.
    c.all_jobs_come_back_done.ensures jobs [] c.args.self.now.jobs.items c.args.self.now.running.items c.join_all.new.jobs.items
    (record { none_before = refl; started_in_order = append-nil jobs ∙ e; joined = c.join_all.ensures.done }) none
