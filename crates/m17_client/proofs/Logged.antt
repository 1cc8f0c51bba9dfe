-- One more record that a book was to take.
use Rattle.std.proofs.Common.{◌≡◌, ℕ, Bool, true, false, ◌+◌, ◌-◌, ◌^◌, min, List, [], ◌∷◌, ◌++◌, length, take, sym, ap, subst, ◌∙◌, arith, Result, Ok, Err, OnOk, OnErr, is_err}
use Rattle.std.specs.List.{concat}
use Rattle.std.proofs.lemmas.List.{append-nil, append_assoc, length_push, take_all}
use Rattle.m17_io.specs.Faults.{HasCause}
use Rattle.m17_ports.specs.Told.{told_then}
use Rattle.m17_ports.specs.Book.{BookTold, HasText}
use Rattle.m17_ports.specs.Laws.{BooksAreWrittenInTurn}
use Rattle.m17_client.specs.TalkDevices.{HasWritten}
use Rattle.m17_client.specs.declared.log.Log.{Log}
use Rattle.m17_client.specs.TalkSoFar.{IsLogged}

-- one more record behind others
concat_more : (records : List (List ℕ)) (bytes : List ℕ)
    → concat records ++ bytes ≡ concat (records ++ bytes ∷ [])
concat_more [] bytes = sym (append-nil bytes)
concat_more (x ∷ xs) bytes = append_assoc x (concat xs) bytes ∙ ap (λ l. x ++ l) (concat_more xs bytes)

-- a call of the book
one_written : {L T E : Type 0} (law : BooksAreWrittenInTurn L) (old new : BookTold L) (bytes : List ℕ)
    (result : Result T E) → HasCause old.faults new.faults result
    → OnOk result (new.written ≡ told_then old.written bytes)
    → OnErr result ((n : ℕ) × (new.written ≡ told_then old.written (take n bytes)))
    → new.device ≡ old.device → HasText old bytes (is_err result) new
one_written law old new bytes (Ok x) cause told prefix same =
    law.one_went old new bytes told cause.no_fault same
one_written law old new bytes (Err x) cause told prefix same =
    law.one_failed old new bytes prefix.0 prefix.1 cause.counted cause.failed same

-- a book that has not failed is written one more record
writes_one : {L : Type 0} (law : BooksAreWrittenInTurn L) (start old new : BookTold L) (before : List (List ℕ))
    (bytes : List ℕ) (failed : Bool) → HasText old bytes failed new → HasWritten start before false old
    → HasWritten start (before ++ bytes ∷ []) failed new
writes_one law start old new before bytes failed one h = record {
  text = subst (λ l. HasText start l failed new) (concat_more before bytes)
      (law.in_turn start old new (concat before) bytes failed h.text one);
  at_one = λ e. omega (arith, length_push before bytes);
}

-- a book that failed is written no more
gives_up : {L : Type 0} (law : BooksAreWrittenInTurn L) (start book : BookTold L) (before : List (List ℕ))
    (bytes : List ℕ) → HasWritten start before true book → HasWritten start (before ++ bytes ∷ []) true book
gives_up law start book before bytes h = record {
  text = subst (λ l. HasText start l true book) (concat_more before bytes)
      (law.given_up start book (concat before) bytes h.text);
  at_one = λ e. omega (arith, length_push before bytes);
}

-- a log that has not failed, after one more record
pub logs_one : {L T E : Type 0} (law : BooksAreWrittenInTurn L) (start old new : BookTold L)
    (before : List (List ℕ)) (bytes : List ℕ) (log later : Log) (result : Result T E) → log.failed ≡ false
    → later.kept ≡ min (log.kept + 1) (2 ^ 64 - 1) → later.failed ≡ is_err result
    → HasCause old.faults new.faults result → OnOk result (new.written ≡ told_then old.written bytes)
    → OnErr result ((n : ℕ) × (new.written ≡ told_then old.written (take n bytes)))
    → new.device ≡ old.device → IsLogged start before log old
    → IsLogged start (before ++ bytes ∷ []) later new
logs_one law start old new before bytes log later result was kept failed cause told prefix same h = record {
  kept = omega (arith, kept, h.kept, length_push before bytes);
  written = rw failed (writes_one law start old new before bytes (is_err result)
      (one_written law old new bytes result cause told prefix same) (rw was at h.written));
}

-- a log that failed, after one more record
pub logs_none : {L : Type 0} (law : BooksAreWrittenInTurn L) (start book : BookTold L) (before : List (List ℕ))
    (bytes : List ℕ) (log later : Log) → log.failed ≡ true → later.kept ≡ min (log.kept + 1) (2 ^ 64 - 1)
    → later.failed ≡ true → IsLogged start before log book → IsLogged start (before ++ bytes ∷ []) later book
logs_none law start book before bytes log later was kept failed h = record {
  kept = omega (arith, kept, h.kept, length_push before bytes);
  written = rw failed (gives_up law start book before bytes (rw was at h.written));
}

-- three fields written one behind another
pub three_fields : (a b c b₁ b₂ b₃ : List ℕ) → length a ≡ 8 → length b ≡ 2 → length c ≡ 54 → length b₃ ≡ 64
    → take (0 + length a) b₁ ≡ a → take (8 + length b) b₂ ≡ take 8 b₁ ++ b
    → take (10 + length c) b₃ ≡ take 10 b₂ ++ c → b₃ ≡ a ++ b ++ c
three_fields a b c b₁ b₂ b₃ la lb lc l₃ h₁ h₂ h₃ =
    let e₁ : take 8 b₁ ≡ a = ap (λ n. take (0 + n) b₁) (sym la) ∙ h₁ in
    let e₂ : take 10 b₂ ≡ take 8 b₁ ++ b = ap (λ n. take (8 + n) b₂) (sym lb) ∙ h₂ in
    let e₃ : take 64 b₃ ≡ take 10 b₂ ++ c = ap (λ n. take (10 + n) b₃) (sym lc) ∙ h₃ in
    let all : take 64 b₃ ≡ b₃ = take_all 64 b₃ (omega (arith, l₃)) in
    sym all ∙ e₃ ∙ ap (λ x. x ++ c) (e₂ ∙ ap (λ x. x ++ b) e₁)
