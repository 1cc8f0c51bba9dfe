-- The words of the reasons of `migrate`, and how they tell why bytes are no book.
use Rattle.std.specs.Prelude.{ℕ, List, [], ◌∷◌, ◌++◌, codes}
use Rattle.m17_print.specs.Line.{hex_of}
use Rattle.m17_book.specs.declared.refusal.FormRefusal.{FormRefusal}
use Rattle.m17_book.specs.declared.refusal.FormRefusal.TheVariants as form
use Rattle.m17_text_commands.specs.declared.migrate_reason.MigrateReason.{MigrateReason}
use Rattle.m17_text_commands.specs.declared.migrate_reason.MigrateReason.TheVariants.{Cut, Kind, Field, Large}

abbrev pub migrate_reason_words : MigrateReason → List ℕ
migrate_reason_words Cut = codes "cut"
migrate_reason_words (Kind byte) = codes "kind " ++ hex_of (byte ∷ [])
migrate_reason_words Field = codes "field"
migrate_reason_words Large = codes "large"

-- the refusal that a place and a reason tell
abbrev pub refusal_told : ℕ → MigrateReason → FormRefusal
refusal_told place Cut = form.Cut place
refusal_told place (Kind byte) = form.Kind place byte
refusal_told place Field = form.Field place
refusal_told place Large = form.Large place
