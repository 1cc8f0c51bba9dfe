-- What holds of every input of `migrate`.
use Rattle.std.specs.Prelude.{◌≡◌, ℕ, List}
use Rattle.m17_text_commands.specs.Migrate.{IsMigrated}

-- An input has one text.
abbrev pub OneMigratedText : Type 0
OneMigratedText = (input a b : List ℕ) → IsMigrated input a → IsMigrated input b → a ≡ b
