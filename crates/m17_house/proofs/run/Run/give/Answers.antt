use Rattle.std.proofs.Common.{List, ℕ, sym, subst}
use Rattle.m17_house.specs.SoFar.{IsChoice}
use Rattle.m17_house.proofs.HeardMore.{given_place}
use Rattle.m17_house.proofs.run.Run.give.Goals as goal

pub returns-clause-given : goal.returns-clause-given
returns-clause-given c = λ entries notice found few taken.
    let choice : IsChoice c.args.self.now.directory.known c.args.plan.now.places c.args.self.now.given c.choose-member.result c.carry_out-none.new.self.given =
    subst (λ (xs : List ℕ). IsChoice c.args.self.now.directory.known c.args.plan.now.places c.args.self.now.given c.choose-member.result xs) (sym c.carry_out-none.ensures.given) c.choose-member.ensures.choice in
    given_place c.askers_ask_for_served_modules.ensures c.each_who_leaves_is_posted.ensures c.entries_before_decide.ensures c.later_entries_change_nothing.ensures c.peers_come_and_go.ensures c.one_entry_more.ensures c.only_served_are_routed.ensures
    c.args.plan.now entries notice c.args.self.now c.carry_out-none.new.self c.args.mouth.now c.carry_out-none.new.mouth c.settle-verdict.new.self c.choose-member.result c.choose-member.new.taken c.settle-verdict.result c.settle-verdict.new.post found c.carry_out-none.result
    few taken choice c.choose-member.ensures.taken (c.settle-verdict.ensures.settled entries notice taken.stands)
    c.settle-verdict.ensures.setup c.settle-verdict.ensures.ended c.settle-verdict.ensures.nothing_asked c.settle-verdict.ensures.bounds.known c.settle-verdict.ensures.bounds.apart c.settle-verdict.ensures.together
    c.carry_out-none.ensures.noted c.carry_out-none.ensures.name c.carry_out-none.ensures.freed
    (λ before. c.carry_out-none.ensures.carried c.args.plan.now before)
