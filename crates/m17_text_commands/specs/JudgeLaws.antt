-- What holds of every input of `judge`.
use Rattle.std.specs.Prelude.{◌≡◌, ℕ, List}
use Rattle.m17_fields.specs.Fields.{IsBytes}
use Rattle.m17_text_commands.specs.Judge.{IsJudgeText}

-- An input has one text.
abbrev pub OneJudgeText : Type 0
OneJudgeText = (input a b : List ℕ) → IsBytes input → IsJudgeText input a → IsJudgeText input b
    → a ≡ b
