use Rattle.std.proofs.Common.{◌∷◌, [], ◌++◌, length, inl, inr, refl, sym, ap, ◌∙◌, arith}
use Rattle.std.proofs.lemmas.Bool.{false≢true}
use Rattle.std.proofs.lemmas.List.Elements.{Contains-push_cases}
use Rattle.m17_values.specs.declared.heard.Heard.TheVariants.{End}
use Rattle.m17_receiver.specs.declared.receiver.Receiver.{Receiver}
use Rattle.m17_ports.specs.Book.{HasText}
use Rattle.m17_receiver.specs.Devices.{HearsToTheEnd, trace_text}
use Rattle.m17_receiver.specs.SoFar.{plan_of_job}
use Rattle.m17_receiver.proofs.Came.{same_devices, same_taped, come_none, come_on, come_end, same_kept, same_itself, plan_is, first_is, next_index, index_is, trace_stays, ear_stays, faults_stay, cell_put}
use Rattle.m17_receiver.proofs.Heard.{hears_one}
use Rattle.m17_receiver.proofs.receiver.Receiver.receive.Goals as goal

pub loop-init : goal.loop-init
loop-init g c =
    record {
      between = record {
        same = same_itself c.args.self.now;
        order = refl;
        post = c.requires.unused.post;
        asked = c.requires.made.asked;
        goes_on = c.requires.made.ended;
      };
      come = come_none c.known_laws.ensures c.ears_tell_up_to_the_end.ensures.new c.ears_hear_in_turn.ensures c.books_are_written_in_turn.ensures g.E.Ear.told g.B.Book.told
          c.args.self.now c.requires;
    }

pub loop-preserved : goal.loop-preserved
loop-preserved g c =
    let hears = g.E.Ear.told in
    let writes = g.B.Book.told in
    let law = c.known_laws.ensures in
    let j = c.args.self.now in
    let k = c.loop.self in
    let s = c.enter-verdict.new.self in
    let h = c.hear-entry.result in
    let old = c.loop.invariant.come in
    let between = c.loop.invariant.between in
    let kept = c.enter-verdict.ensures.kept in
    let k₁ : Receiver g.row.E.Denot g.row.B.Denot = record k { ear = c.hear-entry.new.self; trace = c.write_trace.new.trace; trace_failed = c.write_trace.new.failed } in
    let s₁ : Receiver g.row.E.Denot g.row.B.Denot = record s { tape = c.fill_tape.new.tape } in
    let one = c.ears_hear_in_turn.ensures.one (hears k.ear) (hears k₁.ear) h
    c.hear-entry.ensures.counted c.hear-entry.ensures.fault c.hear-entry.ensures.no_fault c.hear-entry.ensures.appended c.hear-entry.ensures.same_device in
    let heard : HearsToTheEnd (hears j.ear) (old.heard ++ h ∷ []) (hears k₁.ear) =
    hears_one c.ears_tell_up_to_the_end.ensures.new c.ears_hear_in_turn.ensures (hears j.ear) (hears k.ear) (hears k₁.ear) old.heard h c.requires.unused.ear old.no_end one old.ear in
    let traced : HasText (writes j.trace) (trace_text (old.heard ++ h ∷ [])) k₁.trace_failed (writes k₁.trace) =
    c.write_trace.ensures (writes j.trace) old.heard (first_is c.loop.index old.heard old.count) old.trace in
    record {
      between = record {
        same = same_taped j s s₁ refl (same_kept j k₁ s (same_devices j k c.hear-entry.new.self c.write_trace.new.trace c.write_trace.new.failed between.same) kept);
        order = ap (λ (r : Receiver g.row.E.Denot g.row.B.Denot). r.order) kept.rest ∙ between.order;
        post = kept.post;
        asked = c.enter-verdict.ensures.asked;
        goes_on = sym c.has_ended.ensures ∙ c.if-has_ended.false;
      };
      come = record {
        heard = old.heard ++ h ∷ [];
        ear = ear_stays hears k₁ s (hears j.ear) (old.heard ++ h ∷ []) kept heard;
        trace = trace_stays writes k₁ s (writes j.trace) (trace_text (old.heard ++ h ∷ [])) kept traced;
        no_end = λ in_it. elim (Contains-push_cases old.heard h End in_it) [
          | inl earlier ↦ old.no_end earlier
          | inr now ↦ false≢true (sym c.if-has_ended.false ∙ c.has_ended.ensures ∙ c.enter-verdict.ensures.over now)
        ];
        count = next_index c.loop.index c.count_one-next.result old.heard h old.count c.count_one-next.ensures;
        come =
            let was = old.come in
            let at = index_is j k old.heard c.loop.noted c.loop.index was old.count in
            let says = c.enter-verdict.ensures.says in
            let through = c.enter-verdict.ensures.through (plan_of_job j) was.entries says.0 (plan_is j k₁ c.requires.made.places c.requires.made.modules
            (same_devices j k c.hear-entry.new.self c.write_trace.new.trace c.write_trace.new.failed between.same)) at says.1 was.so_far in
            come_on law j k s₁ old.heard h says.0 c.loop.noted c.enter-verdict.new.noted c.enter-verdict.result was says.1 through
            (cell_put k₁ s c.fill_tape.new.tape.items c.loop.index (length was.entries) c.enter-verdict.result kept c.fill_tape.ensures at)
            (sym c.has_ended.ensures ∙ c.if-has_ended.false);
      };
    }

pub returns-then-has_ended-clause-gone : goal.returns-then-has_ended-clause-gone
returns-then-has_ended-clause-gone g c =
    let hears = g.E.Ear.told in
    let writes = g.B.Book.told in
    let law = c.known_laws.ensures in
    let j = c.args.self.now in
    let k = c.loop.self in
    let s = c.enter-verdict.new.self in
    let h = c.hear-entry.result in
    let old = c.loop.invariant.come in
    let between = c.loop.invariant.between in
    let kept = c.enter-verdict.ensures.kept in
    let k₁ : Receiver g.row.E.Denot g.row.B.Denot = record k { ear = c.hear-entry.new.self; trace = c.write_trace.new.trace; trace_failed = c.write_trace.new.failed } in
    let s₁ : Receiver g.row.E.Denot g.row.B.Denot = record s { tape = c.fill_tape.new.tape; lost = c.is_fault-self.result } in
    let one = c.ears_hear_in_turn.ensures.one (hears k.ear) (hears k₁.ear) h
    c.hear-entry.ensures.counted c.hear-entry.ensures.fault c.hear-entry.ensures.no_fault c.hear-entry.ensures.appended c.hear-entry.ensures.same_device in
    let heard : HearsToTheEnd (hears j.ear) (old.heard ++ h ∷ []) (hears k₁.ear) =
    hears_one c.ears_tell_up_to_the_end.ensures.new c.ears_hear_in_turn.ensures (hears j.ear) (hears k.ear) (hears k₁.ear) old.heard h c.requires.unused.ear old.no_end one old.ear in
    let traced : HasText (writes j.trace) (trace_text (old.heard ++ h ∷ [])) k₁.trace_failed (writes k₁.trace) =
    c.write_trace.ensures (writes j.trace) old.heard (first_is c.loop.index old.heard old.count) old.trace in
    record {
      heard = old.heard ++ h ∷ [];
      ear = ear_stays hears k₁ s (hears j.ear) (old.heard ++ h ∷ []) kept heard;
      lost = λ lost.
          let risen = c.hear-entry.ensures.fault (c.is_fault-self.ensures.0 lost) in
          omega (arith, risen, old.ear.heard.counted, faults_stay hears k₁ s kept);
      trace = trace_stays writes k₁ s (writes j.trace) (trace_text (old.heard ++ h ∷ [])) kept traced;
      counted = omega (arith, next_index c.loop.index c.count_one-next.result old.heard h old.count c.count_one-next.ensures, c.count_one-next.type_inv);
      received =
          let was = old.come in
          let at = index_is j k old.heard c.loop.noted c.loop.index was old.count in
          let says = c.enter-verdict.ensures.says in
          let through = c.enter-verdict.ensures.through (plan_of_job j) was.entries says.0 (plan_is j k₁ c.requires.made.places c.requires.made.modules
          (same_devices j k c.hear-entry.new.self c.write_trace.new.trace c.write_trace.new.failed between.same)) at says.1 was.so_far in
          come_end law j k s₁ old.heard h says.0 c.loop.noted c.enter-verdict.new.noted c.enter-verdict.result was says.1 through
          (cell_put k₁ s c.fill_tape.new.tape.items c.loop.index (length was.entries) c.enter-verdict.result kept c.fill_tape.ensures at)
          (sym c.has_ended.ensures ∙ c.if-has_ended.true) c.is_fault-self.ensures;
    }
