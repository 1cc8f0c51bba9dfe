use Rattle.std.proofs.Common.{◌≡◌, Some, length, vec_len, subst, refl, ap, arith}
use Rattle.std.proofs.lemmas.List.Elements.{All-pop}
use Rattle.m17_control.specs.Forms.{IsModule}
use Rattle.m17_plan.specs.Planned.{module_count}
use Rattle.m17_reflect.specs.Taken.{HaveModules}
use Rattle.m17_reflect.proofs.PlaceByPlace.{none_taken, taken_next}
use Rattle.m17_reflect.proofs.NewLanes.{modules_none, modules_more, workers_none, workers_more}
use Rattle.m17_reflect.proofs.bare_workers.bare_workers.Goals as goal

pub loop-made-init : goal.loop-made-init
loop-made-init c =
    let made = c.in_ok-made.made in let none = c.in_ok-made.ensures.0 in let long = ap length c.requires.letters in record {
      each = c.requires.each;
      letters = none_taken (λ w. w.letter) c.args.letters.items made.items none;
      have = (let e : module_count c.args.plan.now ≡ vec_len c.args.letters = omega (arith, long, c.args.letters.ok.0) in subst (λ n. HaveModules n c.args.ends) e c.requires.ends);
      taken = modules_none c.args.ends made.items none;
      seats = none_taken (λ w. w.seat) c.args.seats.now.items made.items none;
      seat_count = omega arith;
      new = workers_none c.args.plan.now c.args.links made.items none;
      count = omega arith;
      made = (let no = ap length none in omega (arith, no, made.ok.0));
      room = c.in_ok-made.ensures.1;
    }

pub loop-made-preserved : goal.loop-made-preserved
loop-made-preserved c =
    let now = c.loop-made in let before = now.invariant in let call = c.bare_worker in let made = c.in_ok-worker in let put = c.push_reserved in record {
      each = (All-pop IsModule now.letters.items call.new.letters.items (Some made.worker.letter) made.ensures.letter before.each).0;
      letters = taken_next (λ w. w.letter) c.args.letters.items now.letters.items call.new.letters.items made.worker.letter made.worker now.made.items put.new.self.items
          before.letters made.ensures.letter refl put.ensures.items;
      have = made.ensures.fewer.0;
      taken = modules_more c.args.ends now.ends call.new.ends now.made.items put.new.self.items made.worker before.taken made.ensures.taken put.ensures.items;
      seats = taken_next (λ w. w.seat) c.args.seats.now.items now.seats.items call.new.seats.items made.worker.seat made.worker now.made.items put.new.self.items
          before.seats made.ensures.seat.0 refl put.ensures.items;
      seat_count = omega (arith, before.seat_count, made.ensures.seat.1);
      new = workers_more c.args.plan.now c.args.links now.made.items put.new.self.items made.worker before.new made.ensures.new put.ensures.items;
      count = omega (arith, before.count, made.ensures.fewer.1);
      made = omega (arith, before.made, put.ensures.len);
      room = omega (arith, before.room, put.ensures.capacity);
    }
