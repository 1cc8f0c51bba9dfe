-- What `check` prints: one line of a legal book.
use Rattle.std.specs.Prelude.{◌≡◌, ◌⊎◌, ℕ, List, [], ◌∷◌, ◌++◌, codes, decimal, Option, Some}
use Rattle.m17_floor.specs.declared.rule.Rule.{Rule}
use Rattle.m17_floor.specs.declared.rule.Rule.TheVariants as rules
use Rattle.m17_book.specs.Book.{IsBook, RefusesBook}
use Rattle.m17_book.specs.Checks.{IsLegalBook, IsFirstBreachOf, report_of}
use Rattle.m17_book.specs.declared.head.Head.{Head}
use Rattle.m17_book.specs.declared.record.Record.{Record}
use Rattle.m17_book.specs.declared.refusal.FormRefusal.TheVariants as form
use Rattle.m17_book.specs.declared.report.Report.{Report}
use Rattle.m17_book.specs.declared.version.Version.TheVariants.{Two}
use Rattle.m17_print.specs.Endings.{input_refused_line}
use Rattle.m17_print.specs.declared.ending.TextEnding.{TextEnding}
use Rattle.m17_print.specs.declared.ending.TextEnding.TheVariants.{Finished, Refused, ReadFailed, WriteFailed}
use Rattle.m17_text_commands.specs.CheckReasons.{check_reason_words}
use Rattle.m17_text_commands.specs.declared.check_reason.CheckReason.{CheckReason}
use Rattle.m17_text_commands.specs.declared.check_reason.CheckReason.TheVariants.{Cut, Kind, Field, Large, Moment, Member, Verdict}

-- the line of a legal book
abbrev pub legal_line : Report → List ℕ
legal_line report =
    codes "legal " ++ decimal report.records ++ codes " records " ++ decimal report.streams
    ++ codes " streams " ++ decimal report.admitted ++ codes " admitted" ++ 10 ∷ []

-- The input is a book with these records, which are legal under the limit of its header; or its record at this place is
-- the first that breaks a rule under that limit, and this the first rule that it breaks.
abbrev pub IsLegalInput : List ℕ → List Record → Type 0
IsLegalInput input records =
    (head : Head) × IsBook Two input head records × IsLegalBook head.limit records

abbrev pub BreaksRule : List ℕ → ℕ → Rule → Type 0
BreaksRule input place rule =
    (head : Head) × (records : List Record) × IsBook Two input head records
    × IsFirstBreachOf head.limit records (record { position = place; rule = rule })

-- Why the input is refused, and where: it is no book, as the form of books says, or it is one that isn't legal.
abbrev pub RefusesInput : List ℕ → ℕ → CheckReason → Type 0
RefusesInput input place Cut = RefusesBook Two input (form.Cut place)
RefusesInput input place (Kind byte) = RefusesBook Two input (form.Kind place byte)
RefusesInput input place Field = RefusesBook Two input (form.Field place)
RefusesInput input place Large = RefusesBook Two input (form.Large place)
RefusesInput input place Moment = BreaksRule input place rules.Moment
RefusesInput input place Member = BreaksRule input place rules.Member
RefusesInput input place Verdict = BreaksRule input place rules.Verdict

-- What `check` prints for the input: the line of a legal book, or the line that says where and why it is refused.
abbrev pub IsCheckText : List ℕ → List ℕ → Type 0
IsCheckText input text = ((records : List Record) × IsLegalInput input records
    × (text ≡ legal_line (report_of records)))
    ⊎ ((place : ℕ) × (reason : CheckReason) × RefusesInput input place reason
    × (text ≡ input_refused_line place (check_reason_words reason)))

-- What an ending of `check` says of the input, and of what is left of it.
abbrev pub SaysCheck : TextEnding CheckReason → List ℕ → Option (List ℕ) → Type 0
SaysCheck Finished input left =
    ((records : List Record) × IsLegalInput input records) × (left ≡ Some [])
SaysCheck (Refused place reason) input left = RefusesInput input place reason
SaysCheck ReadFailed input left = Unit {0}
SaysCheck WriteFailed input left = Unit {0}

-- What stands written when `check` ends in each way: the line of a legal book; nothing where the input is refused or the
-- source failed; and where the sink failed nothing, or a first part of that line.
abbrev pub PrintsCheck : TextEnding CheckReason → List ℕ → Option (List ℕ) → List ℕ → Type 0
PrintsCheck Finished input left text = (records : List Record) × IsLegalInput input records
    × (text ≡ legal_line (report_of records))
PrintsCheck (Refused place reason) input left text = text ≡ []
PrintsCheck ReadFailed input left text = text ≡ []
PrintsCheck WriteFailed input left text = (text ≡ []) ⊎ ((records : List Record) × (after : List ℕ)
    × IsLegalInput input records × (legal_line (report_of records) ≡ text ++ after))
