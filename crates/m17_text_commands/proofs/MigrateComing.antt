-- How a run of `migrate` comes to its end.
use Rattle.std.proofs.Common.{◌≡◌, ◌⊎◌, ℕ, List, [], ◌++◌, take, drop, Option, Some, inl, inr, refl, sym, subst, ◌∙◌}
use Rattle.std.proofs.lemmas.List.{take-append-drop}
use Rattle.m17_lists.proofs.Parts.{nothing_more_is_as_before}
use Rattle.m17_io.specs.Sink.{AppendsPrefix}
use Rattle.m17_book.specs.Answers.{IsOutside}
use Rattle.m17_book.specs.Book.{IsBook, RefusesBook}
use Rattle.m17_book.specs.Versions.{header_of}
use Rattle.m17_book.specs.declared.record.Record.{Record}
use Rattle.m17_book.specs.declared.refusal.FormRefusal.{FormRefusal}
use Rattle.m17_book.specs.declared.version.Version.TheVariants.{One}
use Rattle.m17_print.specs.Endings.{Comes}
use Rattle.m17_print.specs.declared.ending.TextEnding.{TextEnding}
use Rattle.m17_print.specs.declared.ending.TextEnding.TheVariants.{Finished, Refused, ReadFailed, WriteFailed}
use Rattle.m17_text_commands.specs.Migrate.{IsMigrated, migrated_text, SaysMigrate, PrintsMigrate}
use Rattle.m17_text_commands.specs.Moved.{EndsUnread}
use Rattle.m17_text_commands.specs.declared.migrate_reason.MigrateReason.{MigrateReason}
use Rattle.m17_text_commands.proofs.Books.{migrated}

-- a refusal by the bytes alone
inside : (bytes : List ℕ) (found : FormRefusal) → (IsOutside found → ⊥) → IsOutside found ⊎ RefusesBook One bytes found → RefusesBook One bytes found
inside bytes found bytes_tell (inl outside) = absurd (bytes_tell outside)
inside bytes found bytes_tell (inr refused) = refused

pub refused_is : (bytes : List ℕ) (refusal found : FormRefusal) → refusal ≡ found → (IsOutside found → ⊥) → IsOutside refusal ⊎ RefusesBook One bytes refusal
    → RefusesBook One bytes found
refused_is bytes refusal found is bytes_tell told =
    let P : FormRefusal → Type 0 = λ r. IsOutside r ⊎ RefusesBook One bytes r in
    inside bytes found bytes_tell (subst P is told)

-- the new book was written
pub finished : (letter : ℕ) (records : List Record) (bytes : List ℕ) (left first mid last : Option (List ℕ)) → mid ≡ first
    → IsBook One bytes (header_of letter) records × (left ≡ Some [])
    → ((before : List ℕ) → mid ≡ Some before → last ≡ Some (before ++ migrated_text letter records)) → Comes SaysMigrate PrintsMigrate Finished bytes left first last
finished letter records bytes left first mid last same book wrote = record {
  said = ((letter, records, book.0), book.1);
  printed = λ before e. (migrated_text letter records, wrote before (same ∙ e), migrated letter records bytes book.0);
}

-- or a first part of it
pub failed : (letter : ℕ) (records : List Record) (bytes : List ℕ) (left first mid last : Option (List ℕ)) → mid ≡ first
    → IsBook One bytes (header_of letter) records × (left ≡ Some [])
    → ((before : List ℕ) → mid ≡ Some before → AppendsPrefix before (migrated_text letter records) last) → Comes SaysMigrate PrintsMigrate WriteFailed bytes left first last
failed letter records bytes left first mid last same book fails = record {
  said = tt;
  printed = λ before e.
      let text = migrated_text letter records in
      let part = fails before (same ∙ e) in (
        take part.0 text,
        part.1,
        inr (drop part.0 text, subst (IsMigrated bytes) (sym (take-append-drop part.0 text)) (migrated letter records bytes book.0)),
      );
}

-- a run that ended before anything was written
pub ended : (result : TextEnding MigrateReason) (bytes : List ℕ) (left first written : Option (List ℕ)) → written ≡ first → EndsUnread bytes result
    → Comes SaysMigrate PrintsMigrate result bytes left first written
ended Finished bytes left first written same ends = absurd ends
ended (Refused place reason) bytes left first written same ends = record { said = ends; printed = λ before e. ([], nothing_more_is_as_before first written before same e, refl) }
ended ReadFailed bytes left first written same ends = record { said = tt; printed = λ before e. ([], nothing_more_is_as_before first written before same e, refl) }
ended WriteFailed bytes left first written same ends = record { said = tt; printed = λ before e. ([], nothing_more_is_as_before first written before same e, inl refl) }
