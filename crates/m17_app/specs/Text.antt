-- The commands that read their input, print, and ask for nothing more: `judge`, `show`, `check` and `migrate`.
use Rattle.std.specs.Prelude.{◌≡◌, ◌⊎◌, ℕ, List, Option, Some}
use Rattle.m17_io.specs.Faults.{HasRisen}
use Rattle.m17_book.specs.Book.{RefusesBook}
use Rattle.m17_book.specs.declared.record.Record.{Record}
use Rattle.m17_book.specs.declared.version.Version.TheVariants.{One}
use Rattle.m17_text_commands.specs.Check.{IsCheckText, IsLegalInput, PrintsCheck, SaysCheck}
use Rattle.m17_text_commands.specs.CheckReasons.{check_reason_words}
use Rattle.m17_text_commands.specs.declared.check_reason.CheckReason.{CheckReason}
use Rattle.m17_text_commands.specs.Judge.{IsJudgeText, PrintsJudge, SaysJudge}
use Rattle.m17_text_commands.specs.JudgeReasons.{judge_reason_words}
use Rattle.m17_text_commands.specs.Records.{AreRecords}
use Rattle.m17_text_commands.specs.declared.judge_reason.JudgeReason.{JudgeReason}
use Rattle.m17_text_commands.specs.Migrate.{IsMigrated, IsOldBook, PrintsMigrate, SaysMigrate}
use Rattle.m17_text_commands.specs.MigrateReasons.{migrate_reason_words, refusal_told}
use Rattle.m17_text_commands.specs.declared.migrate_reason.MigrateReason.{MigrateReason}
use Rattle.m17_print.specs.Endings.{input_refused_line, last_line, text_ending}
use Rattle.m17_print.specs.declared.ending.TextEnding.{TextEnding}
use Rattle.m17_print.specs.declared.ending.TextEnding.TheVariants as endings
use Rattle.m17_text_commands.specs.Lines.{RefusesLine}
use Rattle.m17_text_commands.specs.ShowReasons.{show_reason_words}
use Rattle.m17_text_commands.specs.Show.{IsShowText, PrintsShow, SaysShow}
use Rattle.m17_text_commands.specs.declared.show_reason.ShowReason.{ShowReason}
use Rattle.m17_app.specs.declared.status.Status.{Status}
use Rattle.m17_app.specs.declared.status.Status.TheVariants.{Finished, InputRefused, ReadFailed, WriteFailed, NoMemory}
use Rattle.m17_app.specs.Status.{Streams}
use Rattle.m17_app.specs.Terms.{Terms}
use Rattle.m17_app.specs.Written.{AddsText, CutsBy, EndsBy}

-- Such a command, with reasons of its own: what its endings say of the input and print, the words of a reason, which text
-- is that of an input, which inputs it takes, and what want of memory tells.
pub record TextCommand (R : Type 0) : Type 1 where
  pub says : TextEnding R → List ℕ → Option (List ℕ) → Type 0
  pub prints : TextEnding R → List ℕ → Option (List ℕ) → List ℕ → Type 0
  pub words : R → List ℕ
  pub is_text : List ℕ → List ℕ → Type 0
  pub takes : List ℕ → Type 0
  pub no_memory : Streams → Streams → Type 0

module _ {R : Type 0} where
  -- the last line of such a command
  abbrev pub text_line : TextCommand R → TextEnding R → List ℕ
  text_line command ending = last_line command.words (text_ending ending)

  -- the run came to this ending, with its last line
  abbrev pub EndsText : TextCommand R → TextEnding R → Streams → Streams → Type 0
  EndsText command ending before after =
      EndsBy command.says command.prints (text_line command ending) ending before after

  -- Some ending was come to, and the sink failed, while it printed or at the last line: what the ending says of the input
  -- holds, so of no refusal but the input's own a first part is written, and of `read failed` only where the source's count
  -- rose.
  abbrev pub CutsText : TextCommand R → Streams → Streams → Type 0
  CutsText command before after = (ending : TextEnding R)
      × (ending ≡ endings.ReadFailed → HasRisen before.source.faults after.source.faults)
      × CutsBy command.says command.prints (text_line command ending) ending before after

  -- What each status says of a run. With 0 and 1 the whole text of the input stands written; with 3 the lines of what was
  -- taken whole, and `read failed`; with 4 a first part of what would have been written.
  abbrev pub TellsText : TextCommand R → Status → Streams → Streams → Type 0
  TellsText command Finished before after = EndsText command endings.Finished before after
      × AddsText command.is_text before after
  TellsText command InputRefused before after = (place : ℕ) × (reason : R)
      × EndsText command (endings.Refused place reason) before after
      × AddsText command.is_text before after
  TellsText command ReadFailed before after = EndsText command endings.ReadFailed before after
  TellsText command WriteFailed before after = CutsText command before after
  TellsText command NoMemory before after = command.no_memory before after
  TellsText command _ before after = ⊥

  abbrev pub text_terms : TextCommand R → Terms
  text_terms command = record {
    tells = TellsText command;
    takes = λ left. (input : List ℕ) × (left ≡ Some input) × command.takes input;
    untroubled = λ left. Unit {0};
  }

-- `judge` takes a list of records. Want of memory comes before any device is touched.
abbrev pub judge_command : TextCommand JudgeReason
judge_command = record {
  says = SaysJudge;
  prints = PrintsJudge;
  words = judge_reason_words;
  is_text = IsJudgeText;
  takes = λ input. (count : ℕ) × AreRecords input count;
  no_memory = λ before after. after ≡ before;
}

-- `show` takes lines of which none is refused. It takes no memory.
abbrev pub show_command : TextCommand ShowReason
show_command = record {
  says = SaysShow;
  prints = PrintsShow;
  words = show_reason_words;
  is_text = IsShowText;
  takes = λ input. (place : ℕ) (reason : ShowReason) → ¬ RefusesLine input place reason;
  no_memory = λ before after. ⊥;
}

-- `check` takes a legal book. It takes no memory.
abbrev pub check_command : TextCommand CheckReason
check_command = record {
  says = SaysCheck;
  prints = PrintsCheck;
  words = check_reason_words;
  is_text = IsCheckText;
  takes = λ input. (records : List Record) × IsLegalInput input records;
  no_memory = λ before after. ⊥;
}

-- What `migrate` writes for the input: the book of version 2, or the line that says where and why the input is no book of
-- version 1.
abbrev pub IsMigrateText : List ℕ → List ℕ → Type 0
IsMigrateText input text = IsMigrated input text
    ⊎ ((place : ℕ) × (reason : MigrateReason) × RefusesBook One input (refusal_told place reason)
    × (text ≡ input_refused_line place (migrate_reason_words reason)))

-- `migrate` takes a book of version 1, legal or not. Want of memory comes before anything is written, and no device has
-- failed then.
abbrev pub migrate_command : TextCommand MigrateReason
migrate_command = record {
  says = SaysMigrate;
  prints = PrintsMigrate;
  words = migrate_reason_words;
  is_text = IsMigrateText;
  takes = IsOldBook;
  no_memory = λ before after. (after.sink.written ≡ before.sink.written)
      × (after.source.faults ≡ before.source.faults) × (after.sink.faults ≡ before.sink.faults);
}
