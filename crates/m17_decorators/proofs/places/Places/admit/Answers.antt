use Rattle.std.proofs.Common.{List, sym, ap, subst, ◌∙◌}
use Rattle.std.proofs.lemmas.List.{get_or_read}
use Rattle.m17_decorators.specs.declared.place.Place.{Place}
use Rattle.m17_decorators.specs.PaceMemory.{Hold, blank, is_spent, once_stamped}
use Rattle.m17_decorators.proofs.PaceStanding.{crowd-admits, found-admits, found-holds, given-holds, spent-admits}
use Rattle.m17_decorators.proofs.places.Places.admit.Goals as goal

pub returns-then-is_spent-clause-admits : goal.returns-then-is_spent-clause-admits
returns-then-is_spent-clause-admits c all hold =
    let items = c.args.self.now.list.items in
    let at = c.in-Some.ensures.some in
    let read = get_or_read items c.in-Some.place c.index.result.now at.0 c.index.ensures blank in
    spent-admits c.args.most c.args.cut c.args.now all c.args.to.now items c.in-Some.place hold
    c.requires at.0 at.1
    (ap (is_spent c.args.cut) (sym read) ∙ sym c.is_spent.ensures ∙ c.if-is_spent.true)

pub returns-else-is_spent-clause-admits : goal.returns-else-is_spent-clause-admits
returns-else-is_spent-clause-admits c all hold =
    let items = c.args.self.now.list.items in
    let at = c.in-Some.ensures.some in
    let read = get_or_read items c.in-Some.place c.index.result.now at.0 c.index.ensures blank in
    found-admits c.args.most c.args.cut c.args.now all c.args.to.now items c.in-Some.place hold
    c.requires at.0 at.1
    (ap (is_spent c.args.cut) (sym read) ∙ sym c.is_spent.ensures ∙ c.if-is_spent.false)

pub returns-else-is_spent-clause-holds : goal.returns-else-is_spent-clause-holds
returns-else-is_spent-clause-holds c all hold _ =
    let items = c.args.self.now.list.items in
    let at = c.in-Some.ensures.some in
    let read = get_or_read items c.in-Some.place c.index.result.now at.0 c.index.ensures blank in
    subst (λ (l : List Place). Hold c.args.most c.args.cut c.args.now
    (once_stamped all c.args.to.now c.args.now) l) (sym c.stamp_at.ensures)
    (found-holds c.args.most c.args.cut c.args.now all c.args.to.now items c.in-Some.place hold
    c.requires at.0 at.1
    (ap (is_spent c.args.cut) (sym read) ∙ sym c.is_spent.ensures ∙ c.if-is_spent.false))

pub returns-in-Some-find_idle-clause-holds : goal.returns-in-Some-find_idle-clause-holds
returns-in-Some-find_idle-clause-holds c all hold _ =
    let items = c.args.self.now.list.items in
    let at = c.in-Some-find_idle.ensures.some in
    subst (λ (l : List Place). Hold c.args.most c.args.cut c.args.now
    (once_stamped all c.args.to.now c.args.now) l) (sym c.renew_at.ensures)
    (given-holds c.args.most c.args.cut c.args.now all c.args.to.now items
    c.in-Some-find_idle.place hold c.requires at.0 c.in-None.ensures.none at.1)

pub returns-in-None-find_idle-clause-admits : goal.returns-in-None-find_idle-clause-admits
returns-in-None-find_idle-clause-admits c all hold =
    crowd-admits c.args.most c.args.cut c.args.now all c.args.to.now c.args.self.now.list.items hold
    c.in-None.ensures.none c.in-None-find_idle.ensures.none
