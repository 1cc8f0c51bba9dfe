use Rattle.std.proofs.Common.{rules, sym, ap, ◌∙◌, ◌≡◌, length}
use Rattle.m17_roll.specs.Closing.{EndView}
use Rattle.m17_roll.proofs.Gathers.{begins_with}
use Rattle.m17_roll.proofs.Ending.{words_length}
use Rattle.m17_roll.proofs.seat.closing.close.Goals as goal

pub loop-seat-init : goal.loop-seat-init
loop-seat-init c =
    rw c.begin-gathering.ensures (begins_with c.requires.0 c.requires.1 c.args.seats.items c.pop.new.self.items c.in-Some.last c.requires.2 (search rules) c.in_order.ensures.rising)

pub returns-clause-places : goal.returns-clause-places
returns-clause-places c k d lt =
    let h = c.loop-seat.invariant in
    let g = c.loop-seat.gathering in
    let long : length c.settle.result.words ≡ g.places =
    ap (λ (e : EndView). length e.words) c.settle.ensures.shown ∙ words_length g.places g.claimed g.given in
    (h.are.each k d lt).2 ∙ sym (long ∙ h.gathered.same_places)
