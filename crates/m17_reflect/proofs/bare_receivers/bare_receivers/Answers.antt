use Rattle.std.proofs.Common.{◌≡◌, ◌+◌, ◌-◌, suc, length, subst, refl, ap, arith}
use Rattle.m17_reflect.specs.Bare.{bare, IsNewReceiver}
use Rattle.m17_reflect.specs.Taken.{HaveLinks}
use Rattle.m17_reflect.proofs.PlaceByPlace.{none_taken, taken_next}
use Rattle.m17_reflect.proofs.NewLanes.{links_none, links_more, links_all, receivers_none, receivers_more, receivers_all}
use Rattle.m17_reflect.proofs.bare_receivers.bare_receivers.Goals as goal

pub loop-done-init : goal.loop-done-init
loop-done-init c =
    let made = c.in_ok-made.made in let none = c.in_ok-made.ensures.0 in let same : c.args.links ≡ c.args.links - 0 = omega arith in record {
      have = subst (λ n. HaveLinks n c.args.ends) same c.requires.ends;
      taken = links_none c.args.ends made.items none;
      seats = none_taken (λ j. j.seat) c.args.seats.now.items made.items none;
      seat_count = omega arith;
      new = receivers_none c.args.plan.now (c.args.links - 0) made.items none;
      made = (let no = ap length none in omega (arith, no, made.ok.0));
      room = c.in_ok-made.ensures.1;
    }

pub loop-done-preserved : goal.loop-done-preserved
loop-done-preserved c =
    let now = c.loop-done in let before = now.invariant in let call = c.bare_receiver in let made = c.in_ok-receiver in let put = c.push_reserved in
    let next : c.args.links - 1 - now.done ≡ c.args.links - (now.done + 1) = omega arith in
    let here : c.args.links - now.done ≡ suc (c.args.links - (now.done + 1)) = omega (arith, c.loop-done-test.true) in record {
      have = subst (λ n. HaveLinks n call.new.ends) next made.ensures.fewer;
      taken = links_more c.args.ends now.ends call.new.ends now.made.items put.new.self.items made.receiver before.taken made.ensures.taken put.ensures.items;
      seats = taken_next (λ j. j.seat) c.args.seats.now.items now.seats.items call.new.seats.items made.receiver.seat made.receiver now.made.items put.new.self.items
          before.seats made.ensures.seat.0 refl put.ensures.items;
      seat_count = omega (arith, before.seat_count, made.ensures.seat.1);
      new = receivers_more c.args.plan.now (c.args.links - now.done) (c.args.links - (now.done + 1)) now.made.items put.new.self.items made.receiver before.new
          (subst (λ n. IsNewReceiver c.args.plan.now n (bare made.receiver)) next made.ensures.new) here put.ensures.items;
      made = omega (arith, before.made, put.ensures.len);
      room = omega (arith, before.room, put.ensures.capacity);
    }

pub returns-clause-new : goal.returns-clause-new
returns-clause-new c =
    let now = c.loop-done in let none : c.args.links - now.done ≡ 0 = omega (arith, c.loop-done-test.false) in
    receivers_all c.args.plan.now (c.args.links - now.done) now.made.items c.reverse.new.self.items now.invariant.new none c.reverse.ensures.items

pub returns-clause-ends : goal.returns-clause-ends
returns-clause-ends c =
    let now = c.loop-done in let have = now.invariant.have in let ends = now.ends in
    links_all c.args.ends ends now.made.items c.reverse.new.self.items now.invariant.taken
    (omega (arith, have.inboxes, ends.inboxes.ok.0, c.loop-done-test.false)) (omega (arith, have.doors, ends.doors.ok.0, c.loop-done-test.false))
    (omega (arith, have.notes, ends.notes.ok.0, c.loop-done-test.false)) (omega (arith, have.orders, ends.orders.ok.0, c.loop-done-test.false)) c.reverse.ensures.items
