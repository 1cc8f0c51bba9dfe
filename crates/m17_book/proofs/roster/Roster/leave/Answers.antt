use Rattle.std.proofs.Common.{ap, sym, subst, ◌∙◌, is_some}
use Rattle.m17_book.specs.Roster.{People, listens_of, RosterStandsFor}
use Rattle.m17_book.proofs.Rosters.{leave_stands}
use Rattle.m17_book.proofs.roster.Roster.leave.Goals as goal

pub returns : goal.returns
returns c = λ limit acts at stands.
    let inside = subst (λ (p : People). RosterStandsFor limit acts p) (sym c.self.view_is) stands in
    leave_stands c.one_act_more_goes_by_what_is_left.ensures.stays c.comings_and_goings_leave_others.ensures.leaves
    limit (record { stays = c.self.inside.stays; lasts = c.self.inside.lasts; floor = c.self.inside.floor }) c.args.k c.left.new.self acts at
    (ap (λ (p : People). is_some (listens_of p.stays c.args.k)) c.self.view_is ∙ c.requires)
    (c.left.ensures.by_leave _ acts at inside.floor) inside
