-- What holds of every input of `show`.
use Rattle.std.specs.Prelude.{◌≡◌, ℕ, List}
use Rattle.m17_text_commands.specs.Show.{IsShowText}

-- An input has one text.
abbrev pub OneShowText : Type 0
OneShowText = (input a b : List ℕ) → IsShowText input a → IsShowText input b → a ≡ b
