use Rattle.std.proofs.Common.{length, map, refl, ap, ◌∙◌, arith}
use Rattle.std.proofs.lemmas.List.{map_push}
use Rattle.m17_reflect.specs.Bare.{bare}
use Rattle.m17_reflect.proofs.PlaceByPlace.{none_taken, taken_next}
use Rattle.m17_reflect.proofs.staffing.staff_receivers.Goals as goal

pub loop-receiver-init : goal.loop-receiver-init
loop-receiver-init g c =
    let jobs = c.args.jobs.now in let none = c.requires.room.0 in record {
      bare = none_taken bare (map bare c.args.made.items) jobs.items none;
      ears = none_taken (λ j. j.ear) c.args.ears.now.items jobs.items none;
      traces = none_taken (λ j. j.trace) c.args.traces.now.items jobs.items none;
      ear_count = c.requires.ears;
      trace_count = c.requires.traces;
      count = (let no = ap length none in omega (arith, no, jobs.ok.0));
      room = c.requires.room.1;
      ear_room = refl;
      trace_room = refl;
    }

pub loop-receiver-preserved : goal.loop-receiver-preserved
loop-receiver-preserved g c =
    let now = c.loop-receiver in let before = now.invariant in let put = c.push_reserved in
    let ear = c.take_last-ear in let trace = c.take_last-trace in let job = c.with_devices in record {
      bare = taken_next bare (map bare c.args.made.items) (map bare now.made.items) (map bare c.pop.new.self.items) (bare c.in-Some.receiver) job.result now.jobs.items put.new.self.items
          before.bare (ap (map bare) c.in-Some.ensures.items ∙ map_push bare c.pop.new.self.items c.in-Some.receiver) job.ensures.bare put.ensures.items;
      ears = taken_next (λ j. j.ear) c.args.ears.now.items now.ears.items ear.new.from.items ear.result job.result now.jobs.items put.new.self.items
          before.ears ear.ensures.last job.ensures.ear put.ensures.items;
      traces = taken_next (λ j. j.trace) c.args.traces.now.items now.traces.items trace.new.from.items trace.result job.result now.jobs.items put.new.self.items
          before.traces trace.ensures.last job.ensures.trace put.ensures.items;
      ear_count = omega (arith, before.ear_count, ear.ensures.fewer, c.in-Some.ensures.len);
      trace_count = omega (arith, before.trace_count, trace.ensures.fewer, c.in-Some.ensures.len);
      count = omega (arith, before.count, put.ensures.len, c.in-Some.ensures.len);
      room = omega (arith, before.room, put.ensures.capacity);
      ear_room = ear.ensures.same_room ∙ before.ear_room;
      trace_room = trace.ensures.same_room ∙ before.trace_room;
    }
