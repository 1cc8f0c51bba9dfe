-- What `migrate` writes: the book of version 2 that says what a book of version 1 says.
use Rattle.std.specs.Prelude.{◌≡◌, ◌⊎◌, ℕ, List, [], ◌++◌, Option, Some}
use Rattle.std.specs.List.{flat_map}
use Rattle.m17_book.specs.Book.{IsBook, RefusesBook}
use Rattle.m17_book.specs.Records.{record_bytes}
use Rattle.m17_book.specs.Versions.{book_header, header_of}
use Rattle.m17_book.specs.declared.record.Record.{Record}
use Rattle.m17_book.specs.declared.version.Version.TheVariants.{One, Two}
use Rattle.m17_print.specs.declared.ending.TextEnding.{TextEnding}
use Rattle.m17_print.specs.declared.ending.TextEnding.TheVariants.{Finished, Refused, ReadFailed, WriteFailed}
use Rattle.m17_text_commands.specs.MigrateReasons.{refusal_told}
use Rattle.m17_text_commands.specs.declared.migrate_reason.MigrateReason.{MigrateReason}

-- the input is a book of version 1, of some module
abbrev pub IsOldBook : List ℕ → Type 0
IsOldBook input = (letter : ℕ) × (records : List Record) × IsBook One input (header_of letter) records

-- The text is the book of version 2 of the module and the records of the input, with the limit 0.
abbrev pub IsMigrated : List ℕ → List ℕ → Type 0
IsMigrated input text = (letter : ℕ) × (records : List Record)
    × IsBook One input (header_of letter) records × IsBook Two text (header_of letter) records

-- the bytes of such a book
abbrev pub migrated_text : ℕ → List Record → List ℕ
migrated_text letter records = book_header Two (header_of letter) ++ flat_map record_bytes records

-- What an ending of `migrate` says of the input, and of what is left of it.
abbrev pub SaysMigrate : TextEnding MigrateReason → List ℕ → Option (List ℕ) → Type 0
SaysMigrate Finished input left = IsOldBook input × (left ≡ Some [])
SaysMigrate (Refused place reason) input left = RefusesBook One input (refusal_told place reason)
SaysMigrate ReadFailed input left = Unit {0}
SaysMigrate WriteFailed input left = Unit {0}

-- What stands written when `migrate` ends in each way: the book of version 2; nothing where the input is refused or the
-- source failed; and where the sink failed nothing, or a first part of that book.
abbrev pub PrintsMigrate : TextEnding MigrateReason → List ℕ → Option (List ℕ) → List ℕ → Type 0
PrintsMigrate Finished input left text = IsMigrated input text
PrintsMigrate (Refused place reason) input left text = text ≡ []
PrintsMigrate ReadFailed input left text = text ≡ []
PrintsMigrate WriteFailed input left text =
    (text ≡ []) ⊎ ((after : List ℕ) × IsMigrated input (text ++ after))
