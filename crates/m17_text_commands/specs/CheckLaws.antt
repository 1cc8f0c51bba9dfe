-- What holds of every input of `check`.
use Rattle.std.specs.Prelude.{◌≡◌, ℕ, List}
use Rattle.m17_book.specs.declared.record.Record.{Record}
use Rattle.m17_text_commands.specs.Check.{IsCheckText, IsLegalInput, RefusesInput}
use Rattle.m17_text_commands.specs.declared.check_reason.CheckReason.{CheckReason}

-- An input has one text.
abbrev pub OneCheckText : Type 0
OneCheckText = (input a b : List ℕ) → IsCheckText input a → IsCheckText input b → a ≡ b

-- An input that is a legal book is refused nowhere.
abbrev pub LegalIsNotRefused : Type 0
LegalIsNotRefused = (input : List ℕ) (records : List Record) (place : ℕ) (reason : CheckReason)
    → IsLegalInput input records → ¬ RefusesInput input place reason
