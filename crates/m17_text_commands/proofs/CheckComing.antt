-- How a run of `check` comes to its end.
use Rattle.std.proofs.Common.{◌≡◌, ◌⊎◌, ℕ, List, [], take, drop, Option, Ok, Err, inl, inr, refl, ap, sym, subst, ◌∙◌}
use Rattle.std.proofs.lemmas.List.{take-append-drop}
use Rattle.m17_lists.proofs.Parts.{nothing_more_is_as_before}
use Rattle.m17_book.specs.Answers.{IsOutside}
use Rattle.m17_book.specs.Book.{RefusesBook}
use Rattle.m17_book.specs.declared.refusal.FormRefusal.{FormRefusal}
use Rattle.m17_book.specs.declared.version.Version.TheVariants.{Two}
use Rattle.m17_book.specs.declared.report.Report.{Report}
use Rattle.m17_io.specs.Sink.{SinkTold}
use Rattle.m17_print.specs.Endings.{Comes, Grows}
use Rattle.m17_print.specs.declared.ending.TextEnding.{TextEnding}
use Rattle.m17_print.specs.declared.ending.TextEnding.TheVariants.{Finished, Refused, ReadFailed, WriteFailed}
use Rattle.m17_text_commands.specs.Check.{legal_line, SaysCheck, PrintsCheck}
use Rattle.m17_text_commands.specs.Judged.{HasJudged, Prints}
use Rattle.m17_text_commands.specs.declared.check_reason.CheckReason.{CheckReason}

-- a refusal by the bytes alone
inside : (bytes : List ℕ) (found : FormRefusal) → (IsOutside found → ⊥) → IsOutside found ⊎ RefusesBook Two bytes found → RefusesBook Two bytes found
inside bytes found bytes_tell (inl outside) = absurd (bytes_tell outside)
inside bytes found bytes_tell (inr refused) = refused

pub refused_is : (bytes : List ℕ) (refusal found : FormRefusal) → refusal ≡ found → (IsOutside found → ⊥) → IsOutside refusal ⊎ RefusesBook Two bytes refusal → RefusesBook Two bytes found
refused_is bytes refusal found is bytes_tell told =
    let P : FormRefusal → Type 0 = λ r. IsOutside r ⊎ RefusesBook Two bytes r in
    inside bytes found bytes_tell (subst P is told)

-- a legal book whose line was written, or a first part of it
pub printed : (result : TextEnding CheckReason) (report : Report) (bytes : List ℕ) (left first : Option (List ℕ)) (old new : SinkTold) → old.written ≡ first → HasJudged (Ok report) bytes left → Prints result (legal_line report) old new → Comes SaysCheck PrintsCheck result bytes left first new.written
printed Finished report bytes left first old new same judged prints =
    let book = judged.0 in
    record {
      said = ((book.0, book.1), judged.1);
      printed = λ before e. (legal_line report, prints.1 before (same ∙ e), (book.0, book.1, ap legal_line book.2));
    }
printed (Refused place reason) report bytes left first old new same judged prints = absurd prints
printed ReadFailed report bytes left first old new same judged prints = absurd prints
printed WriteFailed report bytes left first old new same judged prints =
    let book = judged.0 in
    record {
      said = tt;
      printed = λ before e.
          let part = prints.2 before (same ∙ e) in (
            take part.0 (legal_line report),
            part.1,
            inr (book.0, drop part.0 (legal_line report), book.1, ap legal_line (sym book.2) ∙ sym (take-append-drop part.0 (legal_line report))),
          );
    }

pub grown : (result : TextEnding CheckReason) (line : List ℕ) (first : Option (List ℕ)) (old new : SinkTold) → old.written ≡ first → Prints result line old new → Grows first new.written
grown Finished line first old new same prints = λ before e. (line, prints.1 before (same ∙ e))
grown (Refused place reason) line first old new same prints = absurd prints
grown ReadFailed line first old new same prints = absurd prints
grown WriteFailed line first old new same prints = λ before e. let part = prints.2 before (same ∙ e) in (take part.0 line, part.1)

pub ended : (result : TextEnding CheckReason) (bytes : List ℕ) (left first written : Option (List ℕ)) → written ≡ first → HasJudged (Err result) bytes left → Comes SaysCheck PrintsCheck result bytes left first written
ended Finished bytes left first written same judged = absurd judged
ended (Refused place reason) bytes left first written same judged = record { said = judged; printed = λ before e. ([], nothing_more_is_as_before first written before same e, refl) }
ended ReadFailed bytes left first written same judged = record { said = tt; printed = λ before e. ([], nothing_more_is_as_before first written before same e, refl) }
ended WriteFailed bytes left first written same judged = record { said = tt; printed = λ before e. ([], nothing_more_is_as_before first written before same e, inl refl) }
