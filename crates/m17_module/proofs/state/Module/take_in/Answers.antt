use Rattle.std.proofs.Common.{◌≡◌, ◌+◌, ◌<◌, ℕ, Bool, length, max, is_some, refl, ap, sym, subst, ◌∙◌, arith}
use Rattle.m17_module.specs.Setup.{Setup}
use Rattle.m17_module.specs.Items.{echo_items}
use Rattle.m17_module.specs.StandsFor.{ModuleKept, StandsFor, stepped, IsStep}
use Rattle.m17_module.proofs.EchoesBefore.{Later}
use Rattle.m17_module.proofs.ModuleStep.{recording_in, due_in, before_is, EachStepped, played_end, recorded_end}
use Rattle.m17_module.proofs.StepMore.{step_is}
use Rattle.m17_module.proofs.Tuned.{later_records}
use Rattle.m17_module.proofs.state.Module.take_in.Goals as goal

pub happen-answer-requires-clause-tuned : goal.happen-answer-requires-clause-tuned
happen-answer-requires-clause-tuned c = λ r is.
    later_records c.self.inside.moment c.max-moment.result c.self.inside.room.floor r.parrot (omega (arith, c.max-moment.ensures)) (c.self.invariant.1 r is)

pub returns-clause-by_rule : goal.returns-clause-by_rule
returns-clause-by_rule c = λ events stands few.
    let setup : Setup = record { places = length c.self.inside.room.seats; parrot = is_some c.self.inside.recorder; limit = c.self.inside.room.floor.limit } in
    let at : ℕ = c.max-moment.result in
    let old : ModuleKept = record { setup = setup; moment = c.self.inside.moment; people = c.self.inside.room; count = c.self.inside.count; admitted = c.self.inside.admitted; recording = recording_in c.self.inside.recorder } in
    let now : ℕ → Bool → ℕ → ModuleKept = λ n b l. record { setup = record { places = n; parrot = b; limit = l }; moment = c.max-moment.result; people = c.happen-answer.new.room; count = c.saturating_add-self-inside.result; admitted = c.count_admitted-self-inside.result; recording = recording_in c.happen-answer.new.recorder } in
    let inside : StandsFor old events = subst (λ (k : ModuleKept). StandsFor k events) (sym c.self.view_is) stands in
    let counted : c.self.inside.count ≡ length events = inside.count in
    let room : c.self.inside.admitted < 18446744073709551615 = omega (arith, c.self.invariant.0) in
    let next : c.saturating_add-self-inside.result ≡ c.self.inside.count + 1 = omega (arith, c.saturating_add-self-inside.ensures) in
    let later : Later = record {
      verdicts = c.later_acts_change_no_verdict.ensures;
      members = c.later_acts_change_nothing_before.ensures.members;
      moments = c.later_acts_change_nothing_before.ensures.moments;
      kinds = c.later_acts_change_nothing_before.ensures.kinds;
    } in
    let moment = c.max-moment.ensures ∙ ap (λ m. max m c.args.event.now.at) inside.moment in
    let happened = c.happen-answer.ensures.stands setup events moment inside.people in
    let each : EachStepped setup events c.args.event.now at c.happen-answer.result c.self.inside.room c.happen-answer.new.room c.self.inside.recorder = λ r is. record {
      stands = inside.people;
      moment = moment;
      answer_is = happened.1;
      packets = c.happen-answer.ensures.answer;
      follows = c.happen-answer.ensures.floor;
      before = before_is c.self.inside.recorder r _ is inside.recording;
    } in
    subst (λ (k : ModuleKept). IsStep k.setup events c.args.event.now (stepped c.happen-answer.result (now (length c.happen-answer.new.room.seats) (is_some c.happen-answer.new.recorder) c.happen-answer.new.room.floor.limit) c.happen-answer.new.out)) c.self.view_is
    (subst (λ (b : Bool). IsStep old.setup events c.args.event.now (stepped c.happen-answer.result (now (length c.happen-answer.new.room.seats) b c.happen-answer.new.room.floor.limit) c.happen-answer.new.out)) (sym c.happen-answer.ensures.stays)
    (subst (λ (n : ℕ). IsStep old.setup events c.args.event.now (stepped c.happen-answer.result (now n (is_some c.self.inside.recorder) c.happen-answer.new.room.floor.limit) c.happen-answer.new.out)) (sym c.happen-answer.ensures.length)
    (subst (λ (l : ℕ). IsStep old.setup events c.args.event.now (stepped c.happen-answer.result (now (length c.self.inside.room.seats) (is_some c.self.inside.recorder) l) c.happen-answer.new.out)) (sym c.happen-answer.ensures.limit)
    (step_is c.the_greatest_moment_counts.ensures.here c.the_greatest_moment_counts.ensures.after c.later_acts_change_nothing_before.ensures.members c.admitted_positions_are_counted.ensures.one_more
    old.setup c.self.inside.room c.happen-answer.new.room c.self.inside.moment at c.self.inside.count c.saturating_add-self-inside.result c.self.inside.admitted c.count_admitted-self-inside.result
    (recording_in c.self.inside.recorder) (recording_in c.happen-answer.new.recorder)
    events c.args.event.now c.happen-answer.result c.ask.new.out (echo_items c.self.inside.count c.self.inside.room.seats (due_in at c.self.inside.room.floor c.self.inside.recorder)) c.happen-answer.new.out inside c.max-moment.ensures c.ask.ensures.told c.happen-answer.ensures.told
    happened next (c.count_admitted-self-inside.ensures.counted room)
    (played_end later c.the_greatest_moment_counts.ensures.here setup c.self.inside.count events c.args.event.now at c.happen-answer.result c.self.inside.room c.happen-answer.new.room c.self.inside.recorder refl counted each)
    (recorded_end later c.the_greatest_moment_counts.ensures.here c.only_speakers_are_heard.ensures.strangers setup events c.args.event.now at c.happen-answer.result c.self.inside.room c.happen-answer.new.room c.self.inside.recorder c.happen-answer.new.recorder refl c.happen-answer.ensures.stays c.happen-answer.ensures.recorded each)))))
