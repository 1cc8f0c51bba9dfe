use Rattle.m17_house.proofs.HeardMore.{taken_in}
use Rattle.m17_house.proofs.run.Run.take_in.Goals as goal

pub returns-clause-taken : goal.returns-clause-taken
returns-clause-taken c = λ plan entries notice says index few so_far.
    taken_in c.each_who_leaves_is_posted.ensures c.ended_where_it_ends.ensures c.entries_before_decide.ensures c.later_entries_change_nothing.ensures c.peers_come_and_go.ensures c.one_entry_more.ensures c.only_served_are_routed.ensures
    plan entries notice c.args.self.now c.carry_out.new.self c.args.mouth.now c.carry_out.new.mouth c.hear.new.self c.hear.result c.hear.new.post c.carry_out.result
    few so_far (c.hear.ensures.heard notice says entries so_far.stands index)
    c.hear.ensures.setup c.hear.ensures.ended c.hear.ensures.bounds.known c.hear.ensures.bounds.apart c.hear.ensures.together
    c.carry_out.ensures.noted c.carry_out.ensures.name c.carry_out.ensures.given c.carry_out.ensures.freed
    (λ before. c.carry_out.ensures.carried plan before)
