use Rattle.m17_module.proofs.BookLegal.{FloorLaws, records_legal}
use Rattle.m17_module.proofs.laws.records_are_legal.Goals as goal

pub returns : goal.returns
returns c =
    let laws : FloorLaws = record {
      verdicts = c.later_acts_change_no_verdict.ensures;
      members = c.later_acts_change_nothing_before.ensures.members;
      moments = c.the_greatest_moment_counts.ensures.after;
      one_at_a_place = c.one_member_at_a_place.ensures.one;
      others = c.other_acts_change_nothing.ensures;
      strangers = c.strangers_change_nothing.ensures.leaves;
      past = c.strangers_change_nothing.ensures.joins;
      within = c.books_are_judged_act_by_act.ensures.within;
      one_more = c.books_are_judged_act_by_act.ensures.one_more;
      next = c.books_are_judged_act_by_act.ensures.next;
      stays = c.one_act_more_goes_by_what_is_left.ensures.stays;
      verdict = c.one_act_more_goes_by_what_is_left.ensures.verdict;
      nothing = c.like_lists_go_on_alike.ensures.nothing;
      idle = c.like_lists_go_on_alike.ensures.idle;
      joins = c.like_lists_go_on_alike.ensures.joins;
      replacements = c.like_lists_go_on_alike.ensures.replacements;
      leaves = c.like_lists_go_on_alike.ensures.leaves;
      packets = c.like_lists_go_on_alike.ensures.packets;
    } in
    records_legal laws
