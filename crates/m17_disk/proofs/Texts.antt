-- What a book holds after more was to be written, and what several writes have together.
use Rattle.std.proofs.Common.{◌≡◌, ℕ, Bool, true, false, List, [], ◌∷◌, ◌++◌, length, take, Result, Ok, Err, OnOk, OnErr, is_err, inl, inr, refl, ap, sym, subst, ◌∙◌, arith, append_assoc}
use Rattle.std.proofs.lemmas.Bool.{cases_lt}
use Rattle.std.proofs.lemmas.List.{append-nil, take-append-le, take_all, take_at, flat_map_more}
use Rattle.std.proofs.lemmas.List.Concat.{flat_map-append}
use Rattle.m17_io.specs.Faults.{HasCause}
use Rattle.m17_ports.specs.Told.{told_then}
use Rattle.m17_ports.specs.Book.{BookTold, HasText}
use Rattle.m17_ports.specs.Laws.{BooksAreWrittenInTurn}
use Rattle.m17_disk.specs.Queue.{joined}

pub joined_more : (writes : List (List ℕ)) (bytes : List ℕ) → joined (writes ++ bytes ∷ []) ≡ joined writes ++ bytes
joined_more writes bytes = sym (flat_map_more (λ b. b) [] writes bytes)

-- one write more was taken, and stands in the batch
pub gathered : (before now after : List (List ℕ)) (batch longer bytes : List ℕ) → joined now ≡ joined before ++ batch
    → after ≡ now ++ bytes ∷ [] → longer ≡ batch ++ bytes → joined after ≡ joined before ++ longer
gathered before now after batch longer bytes is came more =
    ap joined came ∙ joined_more now bytes ∙ ap (λ l. l ++ bytes) is ∙ append_assoc (joined before) batch bytes
    ∙ ap (λ l. joined before ++ l) (sym more)

-- one write more, of a book that has all so far
pub text_more : {T E L : Type 0} → BooksAreWrittenInTurn L → (start old new : BookTold L) (text more all : List ℕ) (later : Bool) (result : Result T E)
    → all ≡ text ++ more → later ≡ is_err result → HasCause old.faults new.faults result
    → OnOk result (new.written ≡ told_then old.written more) → OnErr result ((n : ℕ) × (new.written ≡ told_then old.written (take n more)))
    → new.device ≡ old.device → HasText start text false old → HasText start all later new
text_more turns start old new text more all later (Ok x) goes is cause told prefix same h =
    rw (goes, is) (turns.in_turn start old new text more false h (turns.one_went old new more told cause.no_fault same))
text_more turns start old new text more all later (Err x) goes is cause told prefix same h =
    rw (goes, is) (turns.in_turn start old new text more true h (turns.one_failed old new more prefix.0 prefix.1 cause.counted cause.failed same))

-- nothing waited
pub text_same : {L : Type 0} (start book : BookTold L) (text more all : List ℕ) (failed : Bool) → all ≡ text ++ more → more ≡ [] → failed ≡ false
    → HasText start text false book → HasText start all failed book
text_same start book text more all failed goes none sound h = rw (goes, none, append-nil text, sound) h

-- a beginning of a text is one of what goes on with it
beginning : (text more : List ℕ) (n : ℕ) → (m : ℕ) × (take n text ≡ take m (text ++ more))
beginning text more n = elim (cases_lt n (length text)) [
  | inl lt ↦ (n, sym (take-append-le n text more (omega (arith, lt))))
  | inr ge ↦ (length text, take_all n text ge ∙ sym (take_at text more (length text) refl))
]

-- what was taken is a first part of what was handed over, and what was written is one of that
pub first_part : {L : Type 0} (start after : BookTold L) (pushed popped rest : List ℕ) (failed : Bool) → pushed ≡ popped ++ rest
    → HasText start popped failed after → (n : ℕ) × (after.written ≡ told_then start.written (take n pushed))
first_part start after pushed popped rest false is h = (
  length popped,
  (h.whole refl).0 ∙ ap (told_then start.written) (sym (ap (take (length popped)) is ∙ take_at popped rest (length popped) refl)),
)
first_part start after pushed popped rest true is h =
    let s = h.cut refl in
    let b = beginning popped rest s.0 in (
      b.0,
      s.1 ∙ ap (told_then start.written) (b.1 ∙ sym (ap (take b.0) is)),
    )

-- all of it
pub all_of_it : {L : Type 0} (start after : BookTold L) (pushed popped : List ℕ) (failed : Bool) → pushed ≡ popped → failed ≡ false
    → HasText start popped failed after → HasText start pushed false after
all_of_it start after pushed popped failed is sound h =
    subst (λ (p : List ℕ). HasText start p false after) (sym is)
    (subst (λ (b : Bool). HasText start popped b after) sound h)
