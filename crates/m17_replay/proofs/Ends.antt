-- How `replay` comes to its end, once the text of its trace was printed.
use Rattle.std.proofs.Common.{◌≡◌, ℕ, Bool, true, false, List, [], take, drop, Option, None, Some, Result, Ok, Err, refl, sym, subst, ◌∙◌, inr, arith, MatchResult}
use Rattle.std.proofs.lemmas.List.{take-append-drop}
use Rattle.m17_values.specs.declared.failures.Failed.{Failed}
use Rattle.m17_values.specs.declared.heard.Heard.{Heard}
use Rattle.m17_io.specs.Faults.{HasCause, HasCauses, HasRisen}
use Rattle.m17_io.specs.Sink.{SinkTold}
use Rattle.m17_book.specs.Book.{IsTrace}
use Rattle.m17_print.specs.Endings.{Grows}
use Rattle.m17_plan.specs.declared.plan.Plan.{Plan}
use Rattle.m17_replay.specs.declared.ending.ReplayEnding.{ReplayEnding}
use Rattle.m17_replay.specs.Replay.{failed_device, streams, ComesToReplay, IsReplayText}
use Rattle.m17_replay.specs.Run.{judged_ending, IsPrinted, Writes}
use Rattle.m17_replay.proofs.Writing.{writes_grow}

-- how it ends
ended : (plan : Plan) (summary : Bool) (bytes text : List ℕ) (result : Result (Unit {0}) Failed) (lost : Bool) (first written : Option (List ℕ)) → IsReplayText plan summary lost bytes text
    → Writes result text first written → ComesToReplay plan summary (judged_ending result lost) (streams bytes (Some []) first written)
ended plan summary bytes text (Ok v) true first written is writes = record {
  said = ((text, is), refl);
  printed = λ before told. (text, writes.all_of_it before told, is);
}
ended plan summary bytes text (Ok v) false first written is writes = record {
  said = ((text, is), refl);
  printed = λ before told. (text, writes.all_of_it before told, is);
}
ended plan summary bytes text (Err failed) lost first written is writes = record {
  said = tt;
  printed = λ before told.
      let part = writes.part_of_it before told in
      (take part.0 text, part.1, inr (lost, text, drop part.0 text, is, sym (take-append-drop part.0 text)));
}

-- the counts of faults: the trace was read without one, and then its text was written, or not
ended_causes : (a b c d e : ℕ) (result : Result (Unit {0}) Failed) (lost : Bool) → HasCauses (a, b) (c, d) None → HasCause d e result
    → HasCauses (a, b) (c, e) (failed_device (judged_ending result lost))
ended_causes a b c d e (Ok v) true first then = record {
  reads_counted = first.reads_counted;
  writes_counted = omega (arith, first.writes_counted, then.counted);
  read_failed = λ is. cc;
  write_failed = λ is. cc;
  no_read_fault = λ _. first.no_read_fault (λ is. cc);
  no_write_fault = λ _. then.no_fault ∙ first.no_write_fault (λ is. cc);
}
ended_causes a b c d e (Ok v) false first then = record {
  reads_counted = first.reads_counted;
  writes_counted = omega (arith, first.writes_counted, then.counted);
  read_failed = λ is. cc;
  write_failed = λ is. cc;
  no_read_fault = λ _. first.no_read_fault (λ is. cc);
  no_write_fault = λ _. then.no_fault ∙ first.no_write_fault (λ is. cc);
}
ended_causes a b c d e (Err failed) lost first then = record {
  reads_counted = first.reads_counted;
  writes_counted = omega (arith, first.writes_counted, then.counted);
  read_failed = λ is. cc;
  write_failed = λ _. subst (λ (n : ℕ). HasRisen n e) (first.no_write_fault (λ is. cc)) then.failed;
  no_read_fault = λ _. first.no_read_fault (λ is. cc);
  no_write_fault = λ is. absurd (is refl);
}

-- what an answer says of one of its cases
pub in_ok : {T E : Type 0} (result : Result T E) (P : T → Type 0) (Q : E → Type 0) (value : T) → result ≡ Ok value → MatchResult result P Q → P value
in_ok result P Q value e says = subst (λ (r : Result _ _). MatchResult r P Q) e says

pub in_err : {T E : Type 0} (result : Result T E) (P : T → Type 0) (Q : E → Type 0) (failure : E) → result ≡ Err failure → MatchResult result P Q → Q failure
in_err result P Q failure e says = subst (λ (r : Result _ _). MatchResult r P Q) e says

module _ (plan : Plan) (summary : Bool) (heard : List Heard) (ending : ReplayEnding) (first now : SinkTold) (is : IsPrinted plan summary heard ending first now) where
  pub printed_ends : (bytes : List ℕ) → IsTrace bytes heard → ComesToReplay plan summary ending (streams bytes (Some []) first.written now.written)
  printed_ends bytes trace =
      subst (λ (e : ReplayEnding). ComesToReplay plan summary e (streams bytes (Some []) first.written now.written)) (sym is.ending_is)
      (ended plan summary bytes is.text is.result is.lost first.written now.written (is.is_text bytes trace) is.prints.writes)

  pub printed_causes : (a b c : ℕ) → HasCauses (a, b) (c, first.faults) None → HasCauses (a, b) (c, now.faults) (failed_device ending)
  printed_causes a b c before =
      subst (λ (e : ReplayEnding). HasCauses (a, b) (c, now.faults) (failed_device e)) (sym is.ending_is)
      (ended_causes a b c first.faults now.faults is.result is.lost before is.prints.cause)

  pub printed_grows : Grows first.written now.written
  printed_grows = writes_grow is.result is.text first.written now.written is.prints.writes
