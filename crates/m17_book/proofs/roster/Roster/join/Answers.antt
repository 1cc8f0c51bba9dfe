use Rattle.std.proofs.Common.{ap, sym, subst, ◌∙◌, arith}
use Rattle.m17_book.specs.Roster.{People, stay_in, RosterStandsFor}
use Rattle.m17_book.proofs.Rosters.{join_stands, past_stands}
use Rattle.m17_book.proofs.roster.Roster.join.Goals as goal

pub returns-then-k-ge-BOOK_PLACES : goal.returns-then-k-ge-BOOK_PLACES
returns-then-k-ge-BOOK_PLACES c = λ limit acts at stands.
    past_stands c.one_act_more_goes_by_what_is_left.ensures.stays c.strangers_change_nothing.ensures.joins
    limit c.args.self.now c.args.k c.args.listens acts at c.if-k-ge-BOOK_PLACES.true c.requires stands

pub returns : goal.returns
returns c = λ limit acts at stands.
    join_stands c.one_act_more_goes_by_what_is_left.ensures.stays c.comings_and_goings_leave_others.ensures.joins c.comings_and_goings_leave_others.ensures.floor
    limit (record { stays = c.self.inside.stays; lasts = c.self.inside.lasts; floor = c.self.inside.floor }) c.args.k c.args.listens c.new.result acts at
    (omega (arith, c.self.invariant.0)) (omega (arith, c.self.invariant.1)) (omega arith)
    (ap (λ (p : People). stay_in p.stays c.args.k.place) c.self.view_is ∙ c.requires)
    (c.new.ensures.joined _ acts c.args.k at c.args.listens)
    (subst (λ (p : People). RosterStandsFor limit acts p) (sym c.self.view_is) stands)
