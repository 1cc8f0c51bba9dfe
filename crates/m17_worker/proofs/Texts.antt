-- What a book holds after more was to be written.
use Rattle.std.proofs.Common.{◌≡◌, ℕ, Bool, true, false, List, ◌++◌, take, None, Result, Ok, Err, OnOk, OnErr, is_err, refl, ap, sym, ◌∙◌}
use Rattle.m17_io.specs.Faults.{HasCause}
use Rattle.m17_ports.specs.Told.{told_then}
use Rattle.m17_ports.specs.Book.{BookTold, HasText}
use Rattle.m17_ports.specs.Laws.{BooksAreWrittenInTurn}

-- the law of books of this kind
module _ {L : Type 0} (law : BooksAreWrittenInTurn L) (start : BookTold L) (text more : List ℕ) where
  -- a book that tells nothing tells nothing of whatever was to be written
  pub text_untold : (book : BookTold L) (failed : Bool) → book.written ≡ None → HasText start text failed book → HasText start (text ++ more) failed book
  text_untold book true none h = law.given_up start book text more h
  text_untold book false none h =
      law.in_turn start book book text more false h (law.one_went book book more (none ∙ sym (ap (λ t. told_then t more) none)) refl refl)

  -- one write more
  pub text_more : {T E : Type 0} (old new : BookTold L) (failed later : Bool) (result : Result T E)
      → failed ≡ false → later ≡ is_err result → HasCause old.faults new.faults result
      → OnOk result (new.written ≡ told_then old.written more) → OnErr result ((n : ℕ) × (new.written ≡ told_then old.written (take n more)))
      → new.device ≡ old.device → HasText start text failed old → HasText start (text ++ more) later new
  text_more old new failed later (Ok x) was is cause told prefix same h =
      rw is (law.in_turn start old new text more false (rw was at h) (law.one_went old new more told cause.no_fault same))
  text_more old new failed later (Err x) was is cause told prefix same h =
      rw is (law.in_turn start old new text more true (rw was at h) (law.one_failed old new more prefix.0 prefix.1 cause.counted cause.failed same))
