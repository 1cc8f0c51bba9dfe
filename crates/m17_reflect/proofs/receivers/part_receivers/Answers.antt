use Rattle.std.proofs.Common.{◌≡◌, ℕ, ◌+◌, [], ◌∷◌, ◌++◌, length, map, vec_len, sym, subst, refl, ap, ◌∙◌, append-nil, arith}
use Rattle.std.proofs.lemmas.List.{length-reverse}
use Rattle.m17_reflect.specs.Parts.{AreReceiverParts, HasReceiverRoom}
use Rattle.m17_reflect.proofs.PartsBack.{turned, one_taken, all_taken, behind, receivers_none, receivers_more, receiver_room}
use Rattle.m17_reflect.proofs.receivers.part_receivers.Goals as goal

pub loop-job-init : goal.loop-job-init
loop-job-init g c =
    let long = ap length c.reverse.ensures.items ∙ length-reverse c.args.jobs.now.items in
    let same : vec_len c.args.jobs.now ≡ vec_len c.reverse.new.self = omega (arith, long, c.args.jobs.now.ok.0, c.reverse.new.self.ok.0) in record {
      done = ([], turned c.args.jobs.now.items c.reverse.new.self.items c.reverse.ensures.items, receivers_none c.args.parts.now, sym (append-nil c.args.seats.now.items));
      room = subst (λ (n : ℕ). HasReceiverRoom n c.args.parts.now) same c.requires.room;
      seat_room = omega (arith, same, c.requires.seat_room);
      same_room = refl;
    }

pub take-seat-requires : goal.take-seat-requires
take-seat-requires g c = record {
  room = receiver_room (vec_len c.loop-job.jobs) c.loop-job.parts (omega (arith, c.in-Some.ensures.len)) c.loop-job.invariant.room;
}

pub loop-job-preserved : goal.loop-job-preserved
loop-job-preserved g c =
    let now = c.loop-job in let (gone, all, parts, seats) = now.invariant.done in
    let one : vec_len now.jobs ≡ vec_len c.pop.new.self + 1 = omega (arith, c.in-Some.ensures.len) in record {
      done = (
        gone ++ c.in-Some.job ∷ [],
        one_taken c.args.jobs.now.items gone now.jobs.items c.pop.new.self.items c.in-Some.job all c.in-Some.ensures.items,
        receivers_more gone c.in-Some.job c.args.parts.now now.parts c.take-seat.new.self parts c.take-seat.ensures.parts,
        behind (λ j. j.seat) c.args.seats.now.items now.seats.items c.push_reserved.new.self.items gone c.in-Some.job seats
            (c.push_reserved.ensures.items ∙ ap (λ seat. now.seats.items ++ seat ∷ []) c.take-seat.ensures.seat),
      );
      room = c.take-seat.ensures.room (vec_len c.pop.new.self) (subst (λ (n : ℕ). HasReceiverRoom n now.parts) one now.invariant.room);
      seat_room = omega (arith, one, now.invariant.seat_room, c.push_reserved.ensures.len, c.push_reserved.ensures.capacity);
      same_room = c.push_reserved.ensures.capacity ∙ now.invariant.same_room;
    }

pub returns-clause-parts : goal.returns-clause-parts
returns-clause-parts g c =
    let now = c.loop-job in let (gone, all, parts, seats) = now.invariant.done in
    subst (λ js. AreReceiverParts js c.args.parts.now now.parts)
    (all_taken c.args.jobs.now.items gone now.jobs.items all (omega (arith, now.jobs.ok.0, c.in_default.ensures.cases.0))) parts

pub returns-clause-seats : goal.returns-clause-seats
returns-clause-seats g c =
    let now = c.loop-job in let (gone, all, parts, seats) = now.invariant.done in
    subst (λ js. now.seats.items ≡ c.args.seats.now.items ++ map (λ j. j.seat) js)
    (all_taken c.args.jobs.now.items gone now.jobs.items all (omega (arith, now.jobs.ok.0, c.in_default.ensures.cases.0))) seats
