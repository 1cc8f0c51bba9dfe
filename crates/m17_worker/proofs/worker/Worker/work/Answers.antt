use Rattle.std.proofs.Common.{ap, ◌∙◌, arith}
use Rattle.std.proofs.lemmas.Bool.{iff_false}
use Rattle.m17_lane.specs.Ends.{PopEnd}
use Rattle.m17_control.specs.declared.event.Event.{Event}
use Rattle.m17_worker.specs.declared.worker.Worker.{Worker}
use Rattle.m17_worker.specs.Underway.{IsAt}
use Rattle.m17_worker.proofs.Working.{starts_at, not_yet, goes_on, has_worked}
use Rattle.m17_worker.proofs.worker.Worker.work.Goals as goal

pub loop-init : goal.loop-init
loop-init g c =
    let told = g.B.Book.told in
    record {
      at = starts_at told c.args.self.now c.begin.new.self c.begin.ensures.rest c.requires c.rows_grow.ensures c.books_are_written_in_turn.ensures c.begin.ensures.text c.begin.ensures.header;
      going = not_yet told c.args.self.now c.begin.new.self c.begin.ensures.rest c.requires;
      order = ap (λ (w : Worker g.row.B.Denot). w.order) c.begin.ensures.rest;
    }

pub loop-preserved : goal.loop-preserved
loop-preserved g c =
    let told = g.B.Book.told in
    let h = c.loop.invariant in
    let at : IsAt told c.args.self.now c.turn-served.result c.turn-served.new.stopped c.turn-served.new.self = c.turn-served.ensures.at c.args.self.now h.at in
    record {
      at = at;
      going = goes_on told c.args.self.now c.turn-served.new.self c.turn-served.result c.turn-served.new.stopped c.requires.links at
          (iff_false c.all_stopped.ensures c.if-all_stopped.false);
      order = c.turn-served.ensures.order ∙ h.order;
    }

pub returns-then-all_stopped-clause-worked : goal.returns-then-all_stopped-clause-worked
returns-then-all_stopped-clause-worked g c =
    let told = g.B.Book.told in
    let h = c.loop.invariant in
    let at : IsAt told c.args.self.now c.turn-served.result c.turn-served.new.stopped c.turn-served.new.self = c.turn-served.ensures.at c.args.self.now h.at in
    let popped = c.turn-served.ensures.popped in
    has_worked told c.args.self.now c.loop.self c.turn-served.new.self c.turn-served.result c.turn-served.new.stopped popped.0 c.requires.links
    (ap (λ (q : PopEnd Event). q.popped) popped.1) h.going
    (λ link lt. c.all_stopped.ensures.0 c.if-all_stopped.true link (omega (arith, lt, at.same.links))) at
