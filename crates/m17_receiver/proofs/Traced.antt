-- One entry more in a trace.
use Rattle.std.proofs.Common.{◌≡◌, ◌↔◌, ℕ, Bool, true, false, cond, List, [], ◌∷◌, ◌++◌, take, refl, ap, sym, subst, ◌∙◌, None, Result, Ok, Err, OnOk, OnErr, is_err}
use Rattle.std.specs.List.{flat_map}
use Rattle.std.proofs.lemmas.Bool.{false≢true}
use Rattle.std.proofs.lemmas.List.{append-nil, append_assoc}
use Rattle.std.proofs.lemmas.Grind.{flat_map-append}
use Rattle.m17_values.specs.declared.heard.Heard.{Heard}
use Rattle.m17_io.specs.Faults.{HasCause}
use Rattle.m17_ports.specs.Told.{told_then}
use Rattle.m17_ports.specs.Book.{BookTold, HasText}
use Rattle.m17_ports.specs.Laws.{BooksAreWrittenInTurn}
use Rattle.m17_book.specs.Book.{trace_magic}
use Rattle.m17_book.specs.Entries.{entry_bytes}
use Rattle.m17_receiver.specs.Devices.{trace_text}

-- the bytes of one entry, behind those of the header where it is the first
abbrev pub new_bytes : Bool → Heard → List ℕ
new_bytes first entry = cond first trace_magic [] ++ entry_bytes entry

flat_one : (entry : Heard) → flat_map entry_bytes (entry ∷ []) ≡ entry_bytes entry
flat_one entry = append-nil (entry_bytes entry)

text_more_by : (first : Bool) (heard : List Heard) (entry : Heard) → (first ≡ true) ↔ (heard ≡ []) → trace_text (heard ++ entry ∷ []) ≡ trace_text heard ++ new_bytes first entry
text_more_by true [] entry iff = ap (λ (l : List ℕ). trace_magic ++ l) (flat_one entry)
text_more_by false [] entry iff = absurd (false≢true (iff.1 refl))
text_more_by true (h ∷ heard) entry iff = (let never : h ∷ heard ≡ [] = iff.0 refl in absurd (cc))
text_more_by false (h ∷ heard) entry iff =
    ap (λ (l : List ℕ). trace_magic ++ l) (flat_map-append entry_bytes (h ∷ heard) (entry ∷ []) ∙ ap (λ (l : List ℕ). flat_map entry_bytes (h ∷ heard) ++ l) (flat_one entry))
    ∙ sym (append_assoc trace_magic (flat_map entry_bytes (h ∷ heard)) (entry_bytes entry))

-- a trace that began so, and has the text of these entries; one more comes
module _ {L : Type 0} (law : BooksAreWrittenInTurn L) (start : BookTold L) (heard : List Heard) (entry : Heard) (first : Bool) (iff : (first ≡ true) ↔ (heard ≡ [])) where
  text_with : (book : BookTold L) (failed : Bool) → HasText start (trace_text heard ++ new_bytes first entry) failed book → HasText start (trace_text (heard ++ entry ∷ [])) failed book
  text_with book failed h = subst (λ (l : List ℕ). HasText start l failed book) (sym (text_more_by first heard entry iff)) h

  -- a trace that failed is written no more
  pub stays_failed : (book : BookTold L) → HasText start (trace_text heard) true book → HasText start (trace_text (heard ++ entry ∷ [])) true book
  stays_failed book h = text_with book true (law.given_up start book (trace_text heard) (new_bytes first entry) h)

  -- a trace that tells nothing tells nothing of whatever was heard
  pub stays_untold : (book : BookTold L) (failed : Bool) → book.written ≡ None → HasText start (trace_text heard) failed book → HasText start (trace_text (heard ++ entry ∷ [])) failed book
  stays_untold book true none h = stays_failed book h
  stays_untold book false none h =
      let more : List ℕ = new_bytes first entry in
      text_with book false (law.in_turn start book book (trace_text heard) more false h
      (law.one_went book book more (none ∙ sym (ap (λ t. told_then t more) none)) refl refl))

  -- one write
  pub writes_more : {T E : Type 0} (old new : BookTold L) (failed : Bool) (result : Result T E) (bytes : List ℕ) →
      bytes ≡ new_bytes first entry → failed ≡ is_err result → HasCause old.faults new.faults result →
      OnOk result (new.written ≡ told_then old.written bytes) → OnErr result ((n : ℕ) × (new.written ≡ told_then old.written (take n bytes))) →
      new.device ≡ old.device → HasText start (trace_text heard) false old → HasText start (trace_text (heard ++ entry ∷ [])) failed new
  writes_more old new failed (Ok x) bytes spelled is cause told prefix same h =
      subst (λ (b : Bool). HasText start (trace_text (heard ++ entry ∷ [])) b new) (sym is)
      (text_with new false (subst (λ (l : List ℕ). HasText start (trace_text heard ++ l) false new) spelled
      (law.in_turn start old new (trace_text heard) bytes false h (law.one_went old new bytes told cause.no_fault same))))
  writes_more old new failed (Err x) bytes spelled is cause told prefix same h =
      subst (λ (b : Bool). HasText start (trace_text (heard ++ entry ∷ [])) b new) (sym is)
      (text_with new true (subst (λ (l : List ℕ). HasText start (trace_text heard ++ l) true new) spelled
      (law.in_turn start old new (trace_text heard) bytes true h (law.one_failed old new bytes prefix.0 prefix.1 cause.counted cause.failed same))))
