-- A last line that was written, or was not.
use Rattle.std.proofs.Common.{◌≡◌, ℕ, ◌≤◌, List, ◌++◌, length, Option, Some, refl, sym, ap, ◌∙◌, arith, inl, inr}
use Rattle.std.proofs.lemmas.List.{take_all}
use Rattle.m17_io.specs.Faults.{HasRisen}
use Rattle.m17_io.specs.Sink.{AppendsPrefix, SinkTold}
use Rattle.m17_io.specs.Source.{SourceTold}
use Rattle.m17_app.specs.declared.status.Status.{Status}
use Rattle.m17_app.specs.declared.status.Status.TheVariants.{WriteFailed}
use Rattle.m17_app.specs.Status.{streams, WritesLast}

-- all of a line is a first part of it
pub whole_line : (line : List ℕ) (written written' : Option (List ℕ)) → ((xs : List ℕ) → written ≡ Some xs → written' ≡ Some (xs ++ line))
    → (xs : List ℕ) → written ≡ Some xs → AppendsPrefix xs line written'
whole_line line written written' writes xs told =
    (length line, writes xs told ∙ ap (λ ys. Some (xs ++ ys)) (sym (take_all (length line) line (omega arith))))

-- the line was written and handed on
pub handed_on : (line : List ℕ) (own : Status) (source : SourceTold) (before mid after : SinkTold) → ((xs : List ℕ) → before.written ≡ Some xs → mid.written ≡ Some (xs ++ line))
    → after.written ≡ mid.written → mid.faults ≡ before.faults → after.faults ≡ mid.faults → after.held_back ≡ 0
    → WritesLast line own own (streams source before) (streams source after)
handed_on line own source before mid after line_written same first then none = record {
  answer = inl refl;
  whole = λ _ xs told. same ∙ line_written xs told;
  part = whole_line line before.written after.written (λ xs told. same ∙ line_written xs told);
  failed = λ e. inl e;
  handed_on = λ _. none;
  no_fault = λ _. then ∙ first;
  counted = omega (arith, first, then);
  input_untouched = refl;
}

-- the line was written, and then the sink failed
pub not_handed_on : (line : List ℕ) (own : Status) (source : SourceTold) (before mid after : SinkTold) → ((xs : List ℕ) → before.written ≡ Some xs → mid.written ≡ Some (xs ++ line))
    → after.written ≡ mid.written → mid.faults ≡ before.faults → HasRisen mid.faults after.faults → mid.faults ≤ after.faults
    → WritesLast line own WriteFailed (streams source before) (streams source after)
not_handed_on line own source before mid after line_written same first risen counted = record {
  answer = inr refl;
  whole = λ other. absurd (other refl);
  part = whole_line line before.written after.written (λ xs told. same ∙ line_written xs told);
  failed = λ _. inr (rw first at risen);
  handed_on = λ other. absurd (other refl);
  no_fault = λ other. absurd (other refl);
  counted = omega (arith, first, counted);
  input_untouched = refl;
}

-- the sink failed before the line was whole
pub not_written : (line : List ℕ) (own : Status) (source : SourceTold) (before after : SinkTold) → ((xs : List ℕ) → before.written ≡ Some xs → AppendsPrefix xs line after.written)
    → HasRisen before.faults after.faults → before.faults ≤ after.faults → WritesLast line own WriteFailed (streams source before) (streams source after)
not_written line own source before after part risen counted = record {
  answer = inr refl;
  whole = λ other. absurd (other refl);
  part = part;
  failed = λ _. inr risen;
  handed_on = λ other. absurd (other refl);
  no_fault = λ other. absurd (other refl);
  counted = counted;
  input_untouched = refl;
}
