-- A run of `make`, and one whose words are refused, from the last line to what they promise.
use Rattle.std.proofs.Common.{◌≡◌, ℕ, ◌≤◌, List, [], ◌++◌, length, Option, None, Some, refl, sym, ap, subst, ◌∙◌, arith, inl, inr}
use Rattle.std.proofs.lemmas.List.{append-nil, take_all}
use Rattle.m17_io.specs.Faults.{HasRisen, HasCauses}
use Rattle.m17_io.specs.Sink.{AppendsPrefix}
use Rattle.m17_io.specs.Source.{SourceTold}
use Rattle.m17_text_commands.specs.Make.{make_text}
use Rattle.m17_print.specs.Endings.{words_refused_line}
use Rattle.m17_app.specs.declared.status.Status.{Status}
use Rattle.m17_app.specs.declared.status.Status.TheVariants.{Finished, WordsRefused, WriteFailed, PortFailed, CrewRefused}
use Rattle.m17_app.specs.Make.{make_terms, TellsMake}
use Rattle.m17_app.specs.Run.{refused_terms, TellsRefused}
use Rattle.m17_app.specs.Status.{Beside, HasCause, Streams, WritesLast, beside, count_from}
use Rattle.m17_app.specs.Terms.{RunsCommand}
use Rattle.m17_app.proofs.Statuses.{Told, is_write_failed, own_status}
use Rattle.m17_app.proofs.Causes.{cause_from, counts, runs_by, stays}

-- a first part of nothing is nothing more
no_more : (xs first line : List ℕ) (written : Option (List ℕ)) → AppendsPrefix xs [] written → xs ≡ first ++ line → AppendsPrefix first line written
no_more xs first line written (n, is) all =
    (length line, is ∙ ap Some (ap (λ ys. xs ++ ys) (take_all n [] (omega arith)) ∙ append-nil xs ∙ all ∙ ap (λ ys. first ++ ys) (sym (take_all (length line) line (omega arith)))))

-- the counts of streams that didn't fail
no_fault : (before mid : Streams) → before.sink.faults ≤ mid.sink.faults → mid.sink.faults ≡ before.sink.faults → mid.source.faults ≡ before.source.faults → HasCauses (counts before) (counts mid) None
no_fault before mid counted writes reads = record {
  reads_counted = omega (arith, reads);
  writes_counted = counted;
  read_failed = λ e. cc;
  write_failed = λ e. cc;
  no_read_fault = λ _. reads;
  no_write_fault = λ _. writes;
}

finished_told : Told Finished None
finished_told = record { read_told = λ e. cc; read_failed = λ e. cc; write_told = λ e. cc; write_failed = λ e. cc; no_memory = λ e. cc }

words_told : Told WordsRefused None
words_told = record { read_told = λ e. cc; read_failed = λ e. cc; write_told = λ e. cc; write_failed = λ e. cc; no_memory = λ e. cc }

-- all of the trace is written, and the rest is nothing
pub ran : (seed count : ℕ) (status : Status) (before mid after : Streams) (ports crew : ℕ) → ((first : List ℕ) → before.sink.written ≡ Some first → mid.sink.written ≡ Some (first ++ make_text seed count))
    → before.sink.faults ≤ mid.sink.faults → mid.sink.faults ≡ before.sink.faults → mid.source ≡ before.source → WritesLast [] Finished status mid after
    → RunsCommand (make_terms seed count) status before after (beside (count_from ports ports) (count_from crew crew))
ran seed count status before mid after ports crew text counted writes same last =
    let others : Beside = beside (count_from ports ports) (count_from crew crew) in
    let cause : HasCause status before after others = cause_from Finished None [] status before mid after others finished_told (no_fault before mid counted writes (ap (λ (told : SourceTold). told.faults) same)) last
    (stays PortFailed Finished ports ports (λ e. cc) refl) (stays CrewRefused Finished crew crew (λ e. cc) refl) in
    let tells : TellsMake seed count status before after = elim (is_write_failed status) [
      | inl four ↦
          subst (λ (s : Status). TellsMake seed count s before after) (sym four) (
            last.input_untouched ∙ same,
            (λ first told. no_more (first ++ make_text seed count) first (make_text seed count) after.sink.written (last.part (first ++ make_text seed count) (text first told)) refl),
          )
      | inr other ↦
          subst (λ (s : Status). TellsMake seed count s before after) (sym (own_status Finished status last.answer other)) (
            last.input_untouched ∙ same,
            (λ first told. last.whole other (first ++ make_text seed count) (text first told) ∙ ap Some (append-nil (first ++ make_text seed count))),
          )
    ] in
    runs_by (make_terms seed count) status before after others cause tells (λ t _. t) (λ t. t) (λ t _. t) (λ t _. t)

-- the sink failed before the trace was whole
pub failed : (seed count : ℕ) (before after : Streams) (ports crew : ℕ) → ((first : List ℕ) → before.sink.written ≡ Some first → AppendsPrefix first (make_text seed count) after.sink.written)
    → before.sink.faults ≤ after.sink.faults → HasRisen before.sink.faults after.sink.faults → after.source ≡ before.source
    → RunsCommand (make_terms seed count) WriteFailed before after (beside (count_from ports ports) (count_from crew crew))
failed seed count before after ports crew part counted risen same =
    let reads : after.source.faults ≡ before.source.faults = ap (λ (told : SourceTold). told.faults) same in
    let others : Beside = beside (count_from ports ports) (count_from crew crew) in
    let cause : HasCause WriteFailed before after others = record {
      source = record { rose = λ e. cc; stands = λ _ _. reads };
      sink = record { rose = λ _. risen; stands = λ other _. absurd (other refl) };
      ports = stays PortFailed WriteFailed ports ports (λ e. cc) refl;
      crew = stays CrewRefused WriteFailed crew crew (λ e. cc) refl;
      reads_counted = omega (arith, reads);
      writes_counted = counted;
      handed_on = λ other _. absurd (other refl);
    } in
    runs_by (make_terms seed count) WriteFailed before after others cause (same, part) (λ t _. t) (λ t. t) (λ t _. t) (λ t _. t)

-- the words are refused
pub refused : (status : Status) (before after : Streams) (ports crew : ℕ) → WritesLast words_refused_line WordsRefused status before after
    → RunsCommand refused_terms status before after (beside (count_from ports ports) (count_from crew crew))
refused status before after ports crew last =
    let others : Beside = beside (count_from ports ports) (count_from crew crew) in
    let cause : HasCause status before after others = cause_from WordsRefused None words_refused_line status before before after others words_told
    (no_fault before before (omega arith) refl refl) last (stays PortFailed WordsRefused ports ports (λ e. cc) refl) (stays CrewRefused WordsRefused crew crew (λ e. cc) refl) in
    let tells : TellsRefused status before after = elim (is_write_failed status) [
      | inl four ↦ subst (λ (s : Status). TellsRefused s before after) (sym four) (last.input_untouched, last.part)
      | inr other ↦ subst (λ (s : Status). TellsRefused s before after) (sym (own_status WordsRefused status last.answer other)) (last.input_untouched, last.whole other)
    ] in
    record { cause = cause; tells = tells; done = λ takes _. absurd takes; complete = λ takes _ _. absurd takes }
