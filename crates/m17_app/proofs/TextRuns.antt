-- A run of a command that reads and prints, from its ending to what it promises.
use Rattle.std.proofs.Common.{◌≡◌, ◌≢◌, ℕ, List, [], ◌++◌, Option, Some, refl, sym, ap, subst, ◌∙◌, arith, inl, inr}
use Rattle.std.proofs.lemmas.List.{append-nil}
use Rattle.m17_io.specs.Faults.{HasCauses}
use Rattle.m17_book.specs.declared.record.Record.{Record}
use Rattle.m17_text_commands.specs.Check.{IsCheckText, IsLegalInput, PrintsCheck, SaysCheck}
use Rattle.m17_text_commands.specs.CheckLaws.{LegalIsNotRefused}
use Rattle.m17_text_commands.specs.CheckReasons.{check_reason_words}
use Rattle.m17_text_commands.specs.declared.check_reason.CheckReason.{CheckReason}
use Rattle.m17_book.specs.Laws.{BookKept, BooksAreExact}
use Rattle.m17_book.specs.Versions.{header_of}
use Rattle.m17_book.specs.declared.version.Version.TheVariants.{One}
use Rattle.m17_text_commands.specs.Judge.{IsJudgeText, IsTextOfRecords, PrintsJudge, SaysJudge}
use Rattle.m17_text_commands.specs.JudgeReasons.{judge_reason_words}
use Rattle.m17_text_commands.specs.Records.{AreRecords, RefusesRecords}
use Rattle.m17_text_commands.specs.declared.judge_reason.JudgeReason.{JudgeReason}
use Rattle.m17_text_commands.specs.declared.judge_reason.JudgeReason.TheVariants.{Cut, Large}
use Rattle.m17_text_commands.specs.Migrate.{IsMigrated, IsOldBook, PrintsMigrate, SaysMigrate}
use Rattle.m17_text_commands.specs.MigrateReasons.{migrate_reason_words, refusal_told}
use Rattle.m17_text_commands.specs.declared.migrate_reason.MigrateReason.{MigrateReason}
use Rattle.m17_print.specs.Endings.{failed_device, input_refused_line, text_ending, Comes, Grows}
use Rattle.m17_print.specs.declared.ending.TextEnding.{TextEnding}
use Rattle.m17_print.specs.declared.ending.TextEnding.TheVariants as endings
use Rattle.m17_text_commands.specs.ShowReasons.{show_reason_words}
use Rattle.m17_text_commands.specs.Show.{IsShowText, IsTextOfFirst, PrintsShow, SaysShow}
use Rattle.m17_text_commands.specs.declared.show_reason.ShowReason.{ShowReason}
use Rattle.m17_app.specs.declared.status.Status.{Status}
use Rattle.m17_app.specs.declared.status.Status.TheVariants.{InputRefused, WriteFailed, PortFailed, CrewRefused, NoMemory}
use Rattle.m17_app.specs.Status.{Beside, HasCause, Streams, WritesLast, beside, count_from, status_of}
use Rattle.m17_app.specs.Terms.{RunsCommand}
use Rattle.m17_app.specs.Text.{check_command, judge_command, migrate_command, show_command, text_line, text_terms, CutsText, IsMigrateText, TellsText, TextCommand}
use Rattle.m17_app.proofs.Statuses.{is_write_failed, no_crew, no_ports, own_status, told}
use Rattle.m17_app.proofs.Causes.{cause_from, counts, memory_cause, own_last, runs_by, sound_from, stays}
use Rattle.m17_app.proofs.Ended.{adds_text, cuts_by, ends_by}

module _ {R : Type 0} where
  -- What is known of the texts of a command: what it printed and the last line are the text of the input, where that was read
  -- to its end or is refused; and an input that it takes is refused nowhere.
  pub record IsSound (command : TextCommand R) : Type 0 where
    pub finished : (input text : List ℕ) (left : Option (List ℕ)) → command.says endings.Finished input left → command.prints endings.Finished input left text
        → command.is_text input (text ++ [])
    pub refused : (input text : List ℕ) (left : Option (List ℕ)) (place : ℕ) (reason : R) → command.says (endings.Refused place reason) input left
        → command.prints (endings.Refused place reason) input left text → command.is_text input (text ++ input_refused_line place (command.words reason))
    pub not_refused : (input : List ℕ) (left : Option (List ℕ)) (place : ℕ) (reason : R) → command.takes input → command.says (endings.Refused place reason) input left → ⊥

  abbrev pub Came : TextCommand R → TextEnding R → Streams → Streams → Type 0
  Came command ending before mid = (input : List ℕ) → before.source.left ≡ Some input → Comes command.says command.prints ending input mid.source.left before.sink.written mid.sink.written

  abbrev Last : TextCommand R → TextEnding R → Status → Streams → Streams → Type 0
  Last command ending status mid after = WritesLast (text_line command ending) (status_of (text_ending ending)) status mid after

  -- the last line was written
  own_tells : (command : TextCommand R) → IsSound command → (ending : TextEnding R) (before mid after : Streams) → status_of (text_ending ending) ≢ WriteFailed
      → Came command ending before mid → Grows before.sink.written mid.sink.written → Last command ending (status_of (text_ending ending)) mid after
      → TellsText command (status_of (text_ending ending)) before after
  own_tells command sound endings.Finished before mid after other came grows last =
      let said = λ (input : List ℕ) (is : before.source.left ≡ Some input). (came input is).said in
      let printed = λ (input first : List ℕ) (is : before.source.left ≡ Some input) (is_first : before.sink.written ≡ Some first). (came input is).printed first is_first in (
        ends_by command.says command.prints _ _ _ endings.Finished before mid after said printed grows last other,
        adds_text command.says command.prints command.is_text _ _ _ endings.Finished before mid after said printed last other sound.finished,
      )
  own_tells command sound (endings.Refused place reason) before mid after other came grows last =
      let said = λ (input : List ℕ) (is : before.source.left ≡ Some input). (came input is).said in
      let printed = λ (input first : List ℕ) (is : before.source.left ≡ Some input) (is_first : before.sink.written ≡ Some first). (came input is).printed first is_first in (
        place,
        reason,
        ends_by command.says command.prints _ _ _ (endings.Refused place reason) before mid after said printed grows last other,
        adds_text command.says command.prints command.is_text _ _ _ (endings.Refused place reason) before mid after said printed last other
            (λ input text left h p. sound.refused input text left place reason h p),
      )
  own_tells command sound endings.ReadFailed before mid after other came grows last =
      let said = λ (input : List ℕ) (is : before.source.left ≡ Some input). (came input is).said in
      let printed = λ (input first : List ℕ) (is : before.source.left ≡ Some input) (is_first : before.sink.written ≡ Some first). (came input is).printed first is_first in
      ends_by command.says command.prints _ _ _ endings.ReadFailed before mid after said printed grows last other
  own_tells command sound endings.WriteFailed before mid after other came grows last = absurd (other refl)

  -- the sink failed
  cut_tells : (command : TextCommand R) (ending : TextEnding R) (status : Status) (before mid after : Streams) → Came command ending before mid
      → HasCauses (counts before) (counts mid) (failed_device ending) → Last command ending status mid after → CutsText command before after
  cut_tells command ending status before mid after came causes last =
      let said = λ (input : List ℕ) (is : before.source.left ≡ Some input). (came input is).said in
      let printed = λ (input first : List ℕ) (is : before.source.left ≡ Some input) (is_first : before.sink.written ≡ Some first). (came input is).printed first is_first in (
        ending,
        (λ is. sound_from (status_of (text_ending ending)) (failed_device ending) (text_line command ending) status before mid after causes last (ap failed_device is)),
        cuts_by command.says command.prints (text_line command ending) (status_of (text_ending ending)) status ending before mid after said printed last,
      )

  -- an input that the command takes isn't refused
  refuses_none : (command : TextCommand R) → IsSound command → (before after : Streams) → TellsText command InputRefused before after
      → (input : List ℕ) × (before.source.left ≡ Some input) × command.takes input → ⊥
  refuses_none command sound before after (place, reason, ends, adds) (input, is, takes) = sound.not_refused input after.source.left place reason takes (ends.said input is)

  -- the whole run
  pub ran : (command : TextCommand R) → IsSound command → (ending : TextEnding R) (status : Status) (before mid after : Streams) (ports crew : ℕ) → Came command ending before mid
      → HasCauses (counts before) (counts mid) (failed_device ending) → Grows before.sink.written mid.sink.written → Last command ending status mid after
      → RunsCommand (text_terms command) status before after (beside (count_from ports ports) (count_from crew crew))
  ran command sound ending status before mid after ports crew came causes grows last =
      let own : Status = status_of (text_ending ending) in
      let others : Beside = beside (count_from ports ports) (count_from crew crew) in
      let cause : HasCause status before after others = cause_from own (failed_device ending) (text_line command ending) status before mid after others
      (told ending) causes last (stays PortFailed own ports ports (no_ports ending) refl) (stays CrewRefused own crew crew (no_crew ending) refl) in
      let tells : TellsText command status before after = elim (is_write_failed status) [
        | inl four ↦ subst (λ (s : Status). TellsText command s before after) (sym four) (cut_tells command ending status before mid after came causes last)
        | inr other ↦
            let its : status ≡ own = own_status own status last.answer other in
            subst (λ (s : Status). TellsText command s before after) (sym its)
            (own_tells command sound ending before mid after (λ e. other (its ∙ e)) came grows (own_last (text_line command ending) own status mid after last its))
      ] in
      runs_by (text_terms command) status before after others cause tells (refuses_none command sound before after) (λ t. t) (λ t _. t) (λ t _. t)

-- a list of records isn't refused
records_stand : (input : List ℕ) (count n place : ℕ) (reason : JudgeReason) → AreRecords input count → RefusesRecords input n place reason → ⊥
records_stand input count n place Cut are refuses = omega (arith, are.whole, refuses.1, refuses.2)
records_stand input count n place Large are refuses = omega (arith, are.whole, are.not_large, refuses.0, refuses.1)

judge_finished : (input text : List ℕ) (left : Option (List ℕ)) → SaysJudge endings.Finished input left → PrintsJudge endings.Finished input left text → IsJudgeText input (text ++ [])
judge_finished input text left said (count, are, is) = inl (count, are, subst (λ (xs : List ℕ). IsTextOfRecords input count xs) (sym (append-nil text)) is)

judge_refused : (input text : List ℕ) (left : Option (List ℕ)) (place : ℕ) (reason : JudgeReason) → SaysJudge (endings.Refused place reason) input left
    → PrintsJudge (endings.Refused place reason) input left text → IsJudgeText input (text ++ input_refused_line place (judge_reason_words reason))
judge_refused input text left place reason said (count, refuses, is) = inr (count, place, reason, text, refuses, is, refl)

judge_takes : (input : List ℕ) (left : Option (List ℕ)) (place : ℕ) (reason : JudgeReason) → (count : ℕ) × AreRecords input count → SaysJudge (endings.Refused place reason) input left → ⊥
judge_takes input left place reason (count, are) (n, refuses) = records_stand input count n place reason are refuses

pub judge_is_sound : IsSound judge_command
judge_is_sound = record { finished = judge_finished; refused = judge_refused; not_refused = judge_takes }

show_finished : (input text : List ℕ) (left : Option (List ℕ)) → SaysShow endings.Finished input left → PrintsShow endings.Finished input left text → IsShowText input (text ++ [])
show_finished input text left said (count, are, is) = inl (count, are, subst (λ (xs : List ℕ). IsTextOfFirst input count xs) (sym (append-nil text)) is)

show_refused : (input text : List ℕ) (left : Option (List ℕ)) (place : ℕ) (reason : ShowReason) → SaysShow (endings.Refused place reason) input left
    → PrintsShow (endings.Refused place reason) input left text → IsShowText input (text ++ input_refused_line place (show_reason_words reason))
show_refused input text left place reason said (refuses, is) = inr (place, reason, text, refuses, is, refl)

pub show_is_sound : IsSound show_command
show_is_sound = record { finished = show_finished; refused = show_refused; not_refused = λ input left place reason none said. none place reason said.0 }

check_finished : (input text : List ℕ) (left : Option (List ℕ)) → SaysCheck endings.Finished input left → PrintsCheck endings.Finished input left text → IsCheckText input (text ++ [])
check_finished input text left said (records, legal, is) = inl (records, legal, append-nil text ∙ is)

check_refused : (input text : List ℕ) (left : Option (List ℕ)) (place : ℕ) (reason : CheckReason) → SaysCheck (endings.Refused place reason) input left
    → PrintsCheck (endings.Refused place reason) input left text → IsCheckText input (text ++ input_refused_line place (check_reason_words reason))
check_refused input text left place reason said is =
    inr (place, reason, said, ap (λ (xs : List ℕ). xs ++ input_refused_line place (check_reason_words reason)) is)

check_takes : LegalIsNotRefused → (input : List ℕ) (left : Option (List ℕ)) (place : ℕ) (reason : CheckReason) → (records : List Record) × IsLegalInput input records
    → SaysCheck (endings.Refused place reason) input left → ⊥
check_takes legal_or input left place reason (records, legal) said = legal_or input records place reason legal said

pub check_is_sound : LegalIsNotRefused → IsSound check_command
check_is_sound legal_or = record { finished = check_finished; refused = check_refused; not_refused = check_takes legal_or }

migrate_finished : (input text : List ℕ) (left : Option (List ℕ)) → SaysMigrate endings.Finished input left → PrintsMigrate endings.Finished input left text
    → IsMigrateText input (text ++ [])
migrate_finished input text left said is = inl (subst (λ (xs : List ℕ). IsMigrated input xs) (sym (append-nil text)) is)

migrate_refused : (input text : List ℕ) (left : Option (List ℕ)) (place : ℕ) (reason : MigrateReason) → SaysMigrate (endings.Refused place reason) input left
    → PrintsMigrate (endings.Refused place reason) input left text → IsMigrateText input (text ++ input_refused_line place (migrate_reason_words reason))
migrate_refused input text left place reason said is =
    inr (place, reason, said, ap (λ (xs : List ℕ). xs ++ input_refused_line place (migrate_reason_words reason)) is)

migrate_takes : BooksAreExact → (input : List ℕ) (left : Option (List ℕ)) (place : ℕ) (reason : MigrateReason) → IsOldBook input
    → SaysMigrate (endings.Refused place reason) input left → ⊥
migrate_takes exact input left place reason (letter, records, is) said =
    let kept : BookKept = record { header = header_of letter; records = records } in
    (exact One).not_both input kept (refusal_told place reason) is said

pub migrate_is_sound : BooksAreExact → IsSound migrate_command
migrate_is_sound exact = record { finished = migrate_finished; refused = migrate_refused; not_refused = migrate_takes exact }

-- there was no memory for the records of `migrate`
pub no_migrate : BooksAreExact → (before after : Streams) (ports crew : ℕ) → after.sink.written ≡ before.sink.written
    → after.source.faults ≡ before.source.faults → after.sink.faults ≡ before.sink.faults
    → RunsCommand (text_terms migrate_command) NoMemory before after (beside (count_from ports ports) (count_from crew crew))
no_migrate exact before after ports crew written reads writes =
    let others : Beside = beside (count_from ports ports) (count_from crew crew) in
    runs_by (text_terms migrate_command) NoMemory before after others (memory_cause before after others reads writes refl refl) (written, reads, writes)
    (refuses_none migrate_command (migrate_is_sound exact) before after) (λ t. t) (λ t _. t) (λ t _. t)

-- there was no memory for the table of `judge`
pub no_run : (before : Streams) (ports crew : ℕ) → RunsCommand (text_terms judge_command) NoMemory before before (beside (count_from ports ports) (count_from crew crew))
no_run before ports crew =
    let others : Beside = beside (count_from ports ports) (count_from crew crew) in
    runs_by (text_terms judge_command) NoMemory before before others (memory_cause before before others refl refl refl refl) refl
    (refuses_none judge_command judge_is_sound before before) (λ t. t) (λ t _. t) (λ t _. t)
