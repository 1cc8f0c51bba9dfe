use Rattle.std.proofs.Common.{Bool, not, List, refl, subst}
use Rattle.m17_control.specs.declared.event.Event.{Event}
use Rattle.m17_worker.specs.Gifts.{gifts_by, GaveBack}
use Rattle.m17_worker.proofs.Served.{Laws, Seen, served_more, seen_after, low_verdict, room_after, room_between}
use Rattle.m17_worker.proofs.worker.Worker.serve.Goals as goal

pub note-requires-clause-verdict : goal.note-requires-clause-verdict
note-requires-clause-verdict g c =
    let events : List Event = c.requires.0 in
    let can = c.requires.1 in
    low_verdict c.verdicts_fit.ensures c.args.self.now.module.setup events c.args.event.now c.step-verdict.result
    c.step-verdict.new.self c.step-verdict.new.out can.room.places
    (c.step-verdict.ensures.by_rule events can.stands can.few)

pub returns-clause-room : goal.returns-clause-room
returns-clause-room g c =
    let can = c.requires.1 in
    room_after
    (record c.args.self.now {
      «module» = c.step-verdict.new.self;
      basket = c.hand_out-bye.new.basket;
      offers = c.hand_out-bye.new.offers;
      seat = c.hand_out-bye.new.seat;
    }) c.note.new.self c.note.ensures.rest
    (room_between c.args.self.now
    (record c.args.self.now {
      «module» = c.step-verdict.new.self;
      basket = c.hand_out-bye.new.basket;
      offers = c.hand_out-bye.new.offers;
      seat = c.hand_out-bye.new.seat;
    }) c.step-verdict.new.out c.rows_grow.ensures refl c.step-verdict.ensures.setup c.hand_out-bye.ensures.offered c.hand_out-bye.ensures.empty can.room)

pub returns-clause-served : goal.returns-clause-served
returns-clause-served g c = λ j events can same h.
    let laws : Laws = record {
      rows = c.rows_grow.ensures;
      items = c.later_events_change_no_items.ensures;
      gives = c.one_event_more_gives.ensures.given;
      verdicts = c.later_acts_change_no_verdict.ensures;
      moments = c.later_acts_change_nothing_before.ensures.moments;
    } in
    let s : Seen = record {
      event = c.args.event.now;
      items = c.step-verdict.new.out;
      verdict = c.step-verdict.result;
      bye = c.hand_out-bye.result;
    } in
    let G : Bool → Type 0 = λ b. GaveBack c.args.self.now.seat (gifts_by (not b) c.step-verdict.new.out) c.hand_out-bye.new.seat in
    served_more g.B.Book.told laws events s j c.args.self.now c.note.new.self same can.there
    (seen_after g.B.Book.told events s c.args.self.now
    (record c.args.self.now {
      «module» = c.step-verdict.new.self;
      basket = c.hand_out-bye.new.basket;
      offers = c.hand_out-bye.new.offers;
      seat = c.hand_out-bye.new.seat;
    }) c.note.new.self c.note.ensures.rest
    (c.step-verdict.ensures.by_rule events can.stands can.few) c.step-verdict.ensures.answer c.hand_out-bye.ensures.offered
    (subst G c.is_replaced_leave-gives.ensures c.hand_out-bye.ensures.gave_back)
    c.hand_out-bye.ensures.bye c.note.ensures.text c.note.ensures.fits c.note.ensures.tape) h
