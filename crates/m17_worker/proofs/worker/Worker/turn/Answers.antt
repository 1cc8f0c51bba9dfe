use Rattle.std.proofs.Common.{◌≡◌, true, List, sym, subst, arith}
use Rattle.m17_control.specs.declared.event.Event.{Event}
use Rattle.m17_lane.specs.Ends.{PopEnd}
use Rattle.m17_worker.specs.Taken.{taken, is_there}
use Rattle.m17_worker.specs.WorkerDid.{HasServed}
use Rattle.m17_worker.specs.Underway.{CanServe, IsAt, IsServing}
use Rattle.m17_worker.proofs.Turning.{passed_over, can_serve, was_served, served_one}
use Rattle.m17_worker.proofs.worker.Worker.turn.Goals as goal

pub serve-requires : goal.serve-requires
serve-requires g c =
    let told = g.B.Book.told in
    let before = c.args.self.now in
    let event : Event = c.next_event-event.result in
    let there : is_there before.links before.module.setup.places event ≡ true = sym c.if-not-has.ensures in
    let j = c.requires.at.0 in
    let events : List Event = taken j.links j.module.setup.places before.inbox.popped in
    let P : PopEnd Event → Type 0 = λ q. CanServe events event (record before { inbox = q }) in (
      events,
      subst P (sym c.next_event-event.ensures)
          (can_serve told j before event there c.args.served c.args.stopped.now
          (omega (arith, c.count_one-more.ensures, c.count_one-more.type_inv)) c.requires.at.1),
    )

pub returns-then-not-has-clause-at : goal.returns-then-not-has-clause-at
returns-then-not-has-clause-at g c = λ j h.
    let told = g.B.Book.told in
    let before = c.args.self.now in
    let event : Event = c.next_event-event.result in
    let P : PopEnd Event → Type 0 = λ q. IsAt told j c.args.served c.note_stop.new.stopped (record before { inbox = q }) in
    subst P (sym c.next_event-event.ensures)
    (passed_over told j before event (sym c.if-not-has.ensures) c.args.served c.args.stopped.now c.note_stop.new.stopped
    (c.note_stop.ensures before.inbox.popped h.flagged) h)

pub returns-clause-at : goal.returns-clause-at
returns-clause-at g c = λ j h.
    let told = g.B.Book.told in
    let before = c.args.self.now in
    let event : Event = c.next_event-event.result in
    let there : is_there before.links before.module.setup.places event ≡ true = sym c.if-not-has.ensures in
    let events : List Event = taken j.links j.module.setup.places before.inbox.popped in
    let P : PopEnd Event → Type 0 = λ q. CanServe events event (record before { inbox = q }) in
    let S : PopEnd Event → Type 0 = λ q. HasServed told events j (record before { inbox = q }) in
    let W : PopEnd Event → Type 0 = λ q. IsServing (record before { inbox = q }) c.serve.new.self in
    served_one told j before event there c.args.served c.count_one-more.result c.args.stopped.now c.note_stop.new.stopped c.serve.new.self
    c.count_one-more.ensures (c.note_stop.ensures before.inbox.popped h.flagged) c.serve.ensures.room
    (subst W c.next_event-event.ensures c.serve.ensures.same)
    (c.serve.ensures.served j events
    (subst P (sym c.next_event-event.ensures)
    (can_serve told j before event there c.args.served c.args.stopped.now
    (omega (arith, c.count_one-more.ensures, c.count_one-more.type_inv)) h))
    h.same.setup
    (subst S (sym c.next_event-event.ensures) (was_served told j before event there c.args.served c.args.stopped.now h)))
    h
