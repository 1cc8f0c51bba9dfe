-- An input of `check` has one text.
use Rattle.std.proofs.Common.{◌≡◌, ◌⊎◌, ℕ, List, [], refl, sym, ap, subst, ◌∙◌, inl, inr}
use Rattle.m17_floor.specs.declared.rule.Rule.{Rule}
use Rattle.m17_floor.specs.declared.rule.Rule.TheVariants as rules
use Rattle.m17_floor.specs.LegalLaws.{OneFirstBreach}
use Rattle.m17_book.specs.Book.{IsBook, RefusesBook}
use Rattle.m17_book.specs.Checks.{IsFirstBreachOf, kept_of, report_of}
use Rattle.m17_book.specs.Laws.{BookKept, BooksAreExact}
use Rattle.m17_book.specs.declared.head.Head.{Head}
use Rattle.m17_book.specs.declared.version.Version.TheVariants.{Two}
use Rattle.m17_book.specs.declared.record.Record.{Record}
use Rattle.m17_book.specs.declared.refusal.FormRefusal.{FormRefusal}
use Rattle.m17_book.specs.declared.refusal.FormRefusal.TheVariants as form
use Rattle.m17_book.specs.declared.report.Breach.{Breach}
use Rattle.m17_print.specs.Endings.{input_refused_line}
use Rattle.m17_text_commands.specs.Check.{legal_line, IsLegalInput, RefusesInput}
use Rattle.m17_text_commands.specs.Judged.{reason_of}
use Rattle.m17_text_commands.specs.CheckLaws.{OneCheckText, LegalIsNotRefused}
use Rattle.m17_text_commands.specs.CheckReasons.{check_reason_words}
use Rattle.m17_text_commands.specs.declared.check_reason.CheckReason.{CheckReason}
use Rattle.m17_text_commands.specs.declared.check_reason.CheckReason.TheVariants.{Cut, Kind, Field, Large, Moment, Member, Verdict}

-- the line of an input that is no book, and of a book that isn't legal
abbrev line_at : ℕ → CheckReason → List ℕ
line_at place reason = input_refused_line place (check_reason_words reason)

abbrev line_of_form : FormRefusal → List ℕ
line_of_form (form.Cut at) = line_at at Cut
line_of_form (form.Kind at byte) = line_at at (Kind byte)
line_of_form (form.Field at) = line_at at Field
line_of_form (form.Large at) = line_at at Large
line_of_form form.ReadFault = []
line_of_form form.NoMemory = []

abbrev line_of_breach : ℕ → Rule → List ℕ
line_of_breach place rule = line_at place (reason_of rule)

-- Why an input is refused: its bytes are no book, or its records break a rule.
record NoBook (input line : List ℕ) : Type 0 where
  refusal : FormRefusal
  refuses : RefusesBook Two input refusal
  line_is : line ≡ line_of_form refusal

record Broken (input line : List ℕ) : Type 0 where
  head : Head
  records : List Record
  book : IsBook Two input head records
  breach : Breach
  first : IsFirstBreachOf head.limit records breach
  line_is : line ≡ line_of_breach breach.position breach.rule

refused_as : (input : List ℕ) (place : ℕ) (reason : CheckReason) → RefusesInput input place reason → NoBook input (line_at place reason) ⊎ Broken input (line_at place reason)
refused_as input place Cut refuses = inl (record { refusal = form.Cut place; refuses = refuses; line_is = refl })
refused_as input place (Kind byte) refuses = inl (record { refusal = form.Kind place byte; refuses = refuses; line_is = refl })
refused_as input place Field refuses = inl (record { refusal = form.Field place; refuses = refuses; line_is = refl })
refused_as input place Large refuses = inl (record { refusal = form.Large place; refuses = refuses; line_is = refl })
refused_as input place Moment (head, records, book, first) = inr (record { head = head; records = records; book = book; breach = record { position = place; rule = rules.Moment }; first = first; line_is = refl })
refused_as input place Member (head, records, book, first) = inr (record { head = head; records = records; book = book; breach = record { position = place; rule = rules.Member }; first = first; line_is = refl })
refused_as input place Verdict (head, records, book, first) = inr (record { head = head; records = records; book = book; breach = record { position = place; rule = rules.Verdict }; first = first; line_is = refl })

-- a book: its header and its records
abbrev kept : Head → List Record → BookKept
kept head records = record { header = head; records = records }

-- a book has one header and one list of records
one_book : BooksAreExact → (input : List ℕ) (h k : Head) (a b : List Record) → IsBook Two input h a → IsBook Two input k b → kept h a ≡ kept k b
one_book exact input h k a b in_a in_b = (exact Two).one_value input (kept h a) (kept k b) in_a in_b

-- it isn't refused as bytes, and a legal one has no breach
not_refused : BooksAreExact → (input line : List ℕ) (head : Head) (records : List Record) → IsBook Two input head records → NoBook input line → ⊥
not_refused exact input line head records book none = (exact Two).not_both input (kept head records) none.refusal book none.refuses

not_broken : BooksAreExact → (input line : List ℕ) (records : List Record) → IsLegalInput input records → Broken input line → ⊥
not_broken exact input line records legal broken =
    let same = one_book exact input broken.head legal.0 broken.records records broken.book legal.1 in
    let first : IsFirstBreachOf legal.0.limit records broken.breach =
    subst (λ (k : BookKept). IsFirstBreachOf k.header.limit k.records broken.breach) same broken.first in
    legal.2 broken.breach.position broken.breach.rule first.breach

not_legal : BooksAreExact → (input line : List ℕ) (records : List Record) → IsLegalInput input records → NoBook input line ⊎ Broken input line → ⊥
not_legal exact input line records legal (inl none) = not_refused exact input line legal.0 records legal.1 none
not_legal exact input line records legal (inr broken) = not_broken exact input line records legal broken

pub legal_is_not_refused : BooksAreExact → LegalIsNotRefused
legal_is_not_refused exact input records place reason legal refuses = not_legal exact input (line_at place reason) records legal (refused_as input place reason refuses)

-- two refusals have one line
one_form : BooksAreExact → (input a b : List ℕ) → NoBook input a → NoBook input b → a ≡ b
one_form exact input a b in_a in_b = in_a.line_is ∙ ap line_of_form ((exact Two).one_refusal input in_a.refusal in_b.refusal in_a.refuses in_b.refuses) ∙ sym in_b.line_is

one_breach : BooksAreExact → OneFirstBreach → (input a b : List ℕ) → Broken input a → Broken input b → a ≡ b
one_breach exact one input a b in_a in_b =
    let same = one_book exact input in_a.head in_b.head in_a.records in_b.records in_a.book in_b.book in
    let first : IsFirstBreachOf in_b.head.limit in_b.records in_a.breach =
    subst (λ (k : BookKept). IsFirstBreachOf k.header.limit k.records in_a.breach) same in_a.first in
    let is = one in_b.head.limit (kept_of in_b.records) in_a.breach.position in_b.breach.position in_a.breach.rule in_b.breach.rule first in_b.first in
    in_a.line_is ∙ ap (λ (n : ℕ). line_of_breach n in_a.breach.rule) is.0 ∙ ap (λ (r : Rule). line_of_breach in_b.breach.position r) is.1 ∙ sym in_b.line_is

one_refusal : BooksAreExact → OneFirstBreach → (input a b : List ℕ) → NoBook input a ⊎ Broken input a → NoBook input b ⊎ Broken input b → a ≡ b
one_refusal exact one input a b (inl in_a) (inl in_b) = one_form exact input a b in_a in_b
one_refusal exact one input a b (inl in_a) (inr in_b) = absurd (not_refused exact input a in_b.head in_b.records in_b.book in_a)
one_refusal exact one input a b (inr in_a) (inl in_b) = absurd (not_refused exact input b in_a.head in_a.records in_a.book in_b)
one_refusal exact one input a b (inr in_a) (inr in_b) = one_breach exact one input a b in_a in_b

pub one_check_text : BooksAreExact → OneFirstBreach → OneCheckText
one_check_text exact one input a b (inl (records, legal, text)) (inl (others, other, text')) =
    text ∙ ap (λ (k : BookKept). legal_line (report_of k.records)) (one_book exact input legal.0 other.0 records others legal.1 other.1) ∙ sym text'
one_check_text exact one input a b (inl (records, legal, text)) (inr (place, reason, refuses, text')) =
    absurd (legal_is_not_refused exact input records place reason legal refuses)
one_check_text exact one input a b (inr (place, reason, refuses, text)) (inl (records, legal, text')) =
    absurd (legal_is_not_refused exact input records place reason legal refuses)
one_check_text exact one input a b (inr (place, reason, refuses, text)) (inr (place', reason', refuses', text')) =
    text
    ∙ one_refusal exact one input (line_at place reason) (line_at place' reason') (refused_as input place reason refuses) (refused_as input place' reason' refuses')
    ∙ sym text'
