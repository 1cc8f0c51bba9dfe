use Rattle.std.proofs.Common.{Some, ap, sym, ◌∙◌}
use Rattle.m17_book.proofs.Rosters.{stranger_stands, listener_stands}
use Rattle.m17_book.proofs.roster.Roster.judge.Goals as goal

pub returns-in-None : goal.returns-in-None
returns-in-None c = record {
  stands = λ limit acts moment at stands. stranger_stands c.one_act_more_goes_by_what_is_left.ensures.stays c.strangers_change_nothing.ensures.packets c.one_act_more_goes_by_what_is_left.ensures.verdict
      limit c.args.self.now c.args.k c.args.p.now acts moment (sym c.in-None.ensures) stands;
}

pub returns-in-Some-true : goal.returns-in-Some-true
returns-in-Some-true c = record {
  stands = λ limit acts moment at stands. listener_stands c.one_act_more_goes_by_what_is_left.ensures.stays c.strangers_change_nothing.ensures.packets c.one_act_more_goes_by_what_is_left.ensures.verdict
      limit c.args.self.now c.args.k c.args.p.now acts moment (sym c.in-Some-true.ensures ∙ ap Some c.in-Some-true.field-0-test) stands;
}
