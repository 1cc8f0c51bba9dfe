-- A run of `talk`, from its ending to what it promises.
use Rattle.std.proofs.Common.{rules, ◌≡◌, ◌≢◌, ℕ, ◌<◌, List, [], ◌++◌, take, Option, Some, Bool, true, false, refl, sym, ap, subst, ◌∙◌, arith, inl, inr}
use Rattle.std.specs.Prelude.{IsTrue, if◌then◌else◌}
use Rattle.m17_io.specs.Faults.{HasRisen, HasCauses}
use Rattle.m17_io.specs.Sink.{AppendsPrefix}
use Rattle.m17_io.specs.Source.{SourceTold}
use Rattle.m17_print.specs.declared.ending.Ending.{Ending}
use Rattle.m17_print.specs.declared.ending.Ending.TheVariants as ways
use Rattle.m17_client.specs.declared.talking.TalkEnd.{TalkEnd}
use Rattle.m17_words.specs.declared.order.TalkOrder.{TalkOrder}
use Rattle.m17_client_commands.specs.declared.talk_ending.TalkEnding.{TalkEnding}
use Rattle.m17_client_commands.specs.declared.talk_ending.TalkEnding.TheVariants as endings
use Rattle.m17_ports.specs.Ports.{PortsTold}
use Rattle.m17_client_commands.specs.Devices.{DevicesTold}
use Rattle.m17_client_commands.specs.declared.reason.ScriptReason.{ScriptReason}
use Rattle.m17_client_commands.specs.TalkEndings.{talk_ending}
use Rattle.m17_client_commands.specs.Laws.{ScriptsAreExact}
use Rattle.m17_client_commands.specs.Script.{Due, IsScript}
use Rattle.m17_client_commands.specs.Talked.{ending_of, talk_line, failed_device, AsksNothing, ComesToTalk, EndsTalk, Handed, HasRun, Talks}
use Rattle.m17_client_commands.specs.Talked as talked
use Rattle.m17_app.specs.declared.status.Status.{Status}
use Rattle.m17_app.specs.declared.status.Status.TheVariants.{InputRefused, WriteFailed, PortFailed, CrewRefused, LinkLost, BookFailed, NoMemory}
use Rattle.m17_app.specs.Status.{Beside, HasCause, Streams, RoseBy, WritesLast, beside, count_from}
use Rattle.m17_app.specs.Talk.{talk_last_line, talk_status, talk_terms, talk_streams, CutsTalk, IsUntroubled, RanTalk, TellsTalk}
use Rattle.m17_app.specs.Terms.{RunsCommand}
use Rattle.m17_app.proofs.Statuses.{Told, is_write_failed, own_status}
use Rattle.m17_app.proofs.Causes.{cause_from, counts, memory_cause, runs_by, sound_from, stays}
use Rattle.m17_app.proofs.Written.{adds_after, adds_part_after, part_longer, same_written}

-- what an ending tells of the streams
told : (ending : TalkEnding) → Told (talk_status ending) (failed_device ending)
told endings.Finished = record { read_told = λ e. cc; read_failed = λ e. cc; write_told = λ e. cc; write_failed = λ e. cc; no_memory = λ e. cc }
told endings.LinkLost = record { read_told = λ e. cc; read_failed = λ e. cc; write_told = λ e. cc; write_failed = λ e. cc; no_memory = λ e. cc }
told endings.BookFailed = record { read_told = λ e. cc; read_failed = λ e. cc; write_told = λ e. cc; write_failed = λ e. cc; no_memory = λ e. cc }
told (endings.Refused place reason) = record { read_told = λ e. cc; read_failed = λ e. cc; write_told = λ e. cc; write_failed = λ e. cc; no_memory = λ e. cc }
told endings.ReadFailed = record { read_told = λ _. refl; read_failed = λ _. refl; write_told = λ e. cc; write_failed = λ e. cc; no_memory = λ e. cc }
told endings.WriteFailed = record { read_told = λ e. cc; read_failed = λ e. cc; write_told = λ _. refl; write_failed = λ _. refl; no_memory = λ e. cc }
told endings.PortFailed = record { read_told = λ e. cc; read_failed = λ e. cc; write_told = λ e. cc; write_failed = λ e. cc; no_memory = λ e. cc }

-- what was read and done stays, where the last line leaves the input alone
ran_later : {E M B : Type 0} (order : TalkOrder) (end : TalkEnd) (run : Handed E M B) (before mid after : Streams) → after.source.left ≡ mid.source.left → HasRun order end run (talk_streams before mid) → HasRun order end run (talk_streams before after)
ran_later order end run before mid after left (script, read, talks) =
    (script, (read.0, (λ input is. let both = read.1 input is in (both.0, left ∙ both.1))), talks)

-- the flags of an end, by its status
lost_flag : (lost failed : Bool) → talk_status (if lost then endings.LinkLost else (if failed then endings.BookFailed else endings.Finished)) ≡ LinkLost → IsTrue lost
lost_flag true failed e = search rules
lost_flag false true e = cc
lost_flag false false e = cc

failed_flag : (lost failed : Bool) → talk_status (if lost then endings.LinkLost else (if failed then endings.BookFailed else endings.Finished)) ≡ BookFailed → IsTrue failed
failed_flag true failed e = cc
failed_flag false true e = search rules
failed_flag false false e = cc

-- new devices' counts began at 0
above_0 : (a b : ℕ) → a ≡ 0 → HasRisen a b → 0 < b
above_0 a b none risen = omega arith

module _ {E M B : Type 0} where
  one_of : (o : Option (DevicesTold E M (Option B))) (a b : DevicesTold E M (Option B)) → o ≡ Some a → o ≡ Some b → a ≡ b
  one_of o a b e f = cc

  lost_ear : (order : TalkOrder) (script : List Due) (end : TalkEnd) (run : Handed E M B) → Talks order script end run → talk_status (ending_of end) ≡ LinkLost
      → (d : DevicesTold E M (Option B)) → run.devices ≡ Some d → 0 < d.ear.faults
  lost_ear order script end run talks is d at =
      let risen = talks.talked.lost (lost_flag end.lost end.book_failed is) in
      subst (λ (x : DevicesTold E M (Option B)). 0 < x.ear.faults) (one_of run.devices talks.devices d talks.handed_back at)
      (above_0 talks.new.ear.faults talks.devices.ear.faults talks.are_new.ear.faults risen)

  failed_book : (order : TalkOrder) (script : List Due) (end : TalkEnd) (run : Handed E M B) → Talks order script end run → talk_status (ending_of end) ≡ BookFailed
      → (d : DevicesTold E M (Option B)) → run.devices ≡ Some d → 0 < d.book.faults
  failed_book order script end run talks is d at =
      let risen = talks.talked.failed (failed_flag end.lost end.book_failed is) in
      subst (λ (x : DevicesTold E M (Option B)). 0 < x.book.faults) (one_of run.devices talks.devices d talks.handed_back at)
      (above_0 talks.new.book.faults talks.devices.book.faults talks.are_new.book.faults risen)

-- A last line was written behind what an ending printed.
abbrev AddsLine : TalkEnding → Streams → Streams → Type 0
AddsLine ending mid after = (xs : List ℕ) → mid.sink.written ≡ Some xs → after.sink.written ≡ Some (xs ++ talk_last_line ending)

abbrev AddsLinePart : TalkEnding → Streams → Streams → Type 0
AddsLinePart ending mid after = (xs : List ℕ) → mid.sink.written ≡ Some xs → AppendsPrefix xs (talk_last_line ending) after.sink.written

ran_tells : {E M B : Type 0} (order : TalkOrder) (ending : TalkEnding) (before mid after : Streams) (run : Handed E M B) → after.source.left ≡ mid.source.left → AddsLine ending mid after
    → EndsTalk order ending run (talk_streams before mid) → RanTalk order (talk_status ending) before after run
ran_tells order ending before mid after run left line (end, ran, is, printed) = record {
  end = end;
  ran = ran_later order end run before mid after left ran;
  status_is = ap talk_status is;
  text = adds_after (talk_line end) (talk_last_line (ending_of end)) before mid after printed (subst (λ (e : TalkEnding). AddsLine e mid after) is line);
  lost = λ lost. lost_ear order ran.0 end run ran.2 (sym (ap talk_status is) ∙ lost);
  failed = λ failed. failed_book order ran.0 end run ran.2 (sym (ap talk_status is) ∙ failed);
}

-- the last line was written
own_tells : {E M B : Type 0} (order : TalkOrder) (ending : TalkEnding) (before mid after : Streams) (run : Handed E M B) → talk_status ending ≢ WriteFailed → after.source.left ≡ mid.source.left
    → AddsLine ending mid after → ComesToTalk order ending run (talk_streams before mid) → TellsTalk order run (talk_status ending) before after
own_tells order endings.Finished before mid after run other left line came = ran_tells order endings.Finished before mid after run left line came
own_tells order endings.LinkLost before mid after run other left line came = ran_tells order endings.LinkLost before mid after run left line came
own_tells order endings.BookFailed before mid after run other left line came = ran_tells order endings.BookFailed before mid after run left line came
own_tells order (endings.Refused place reason) before mid after run other left line came =
    (came.0, (place, reason, came.2, (λ first is. line first (came.1 ∙ is))))
own_tells order endings.ReadFailed before mid after run other left line came = (came.0, (λ first is. line first (came.1 ∙ is)))
own_tells order endings.WriteFailed before mid after run other left line came = absurd (other refl)
own_tells order endings.PortFailed before mid after run other left line came =
    let read = came.2.1 in
    (came.0, (came.2.0, (read.0, (λ input is. let both = read.1 input is in (both.0, left ∙ both.1)))), (λ first is. line first (came.1 ∙ is)))

-- the sink failed
cut_ran : {E M B : Type 0} (order : TalkOrder) (ending : TalkEnding) (before mid after : Streams) (run : Handed E M B) → after.source.left ≡ mid.source.left → AddsLinePart ending mid after
    → EndsTalk order ending run (talk_streams before mid) → CutsTalk order before after run
cut_ran order ending before mid after run left part (end, ran, is, printed) = inr (inr (
  end,
  ran_later order end run before mid after left ran,
  adds_part_after (talk_line end) (talk_last_line (ending_of end)) before mid after printed (subst (λ (e : TalkEnding). AddsLinePart e mid after) is part),
))

cut_tells : {E M B : Type 0} (order : TalkOrder) (ending : TalkEnding) (before mid after : Streams) (run : Handed E M B) → after.source.left ≡ mid.source.left → (ending ≡ endings.ReadFailed → HasRisen before.source.faults after.source.faults)
    → AddsLinePart ending mid after → ComesToTalk order ending run (talk_streams before mid) → CutsTalk order before after run
cut_tells order endings.Finished before mid after run left sound part came = cut_ran order endings.Finished before mid after run left part came
cut_tells order endings.LinkLost before mid after run left sound part came = cut_ran order endings.LinkLost before mid after run left part came
cut_tells order endings.BookFailed before mid after run left sound part came = cut_ran order endings.BookFailed before mid after run left part came
cut_tells order (endings.Refused place reason) before mid after run left sound part came =
    inl (came.0, (talk_last_line (endings.Refused place reason), inr (inr (place, reason, came.2, refl)), (λ first is. part first (came.1 ∙ is))))
cut_tells order endings.ReadFailed before mid after run left sound part came =
    inl (came.0, (talk_last_line endings.ReadFailed, inr (inl (refl, sound refl)), (λ first is. part first (came.1 ∙ is))))
cut_tells order endings.WriteFailed before mid after run left sound part (inl came) = inl (came.0, ([], inl refl, (λ first is. part first (came.1 ∙ is))))
cut_tells order endings.WriteFailed before mid after run left sound part (inr (end, ran, printed)) = inr (inr (
  end,
  ran_later order end run before mid after left ran,
  (λ first is.
      let p = printed first is in
      part_longer first (talk_line end) (talk_last_line (ending_of end)) after.sink.written (p.0, same_written mid after part (first ++ take p.0 (talk_line end)) p.1)),
))
cut_tells order endings.PortFailed before mid after run left sound part came = inr (inl (came.0, (λ first is. part first (came.1 ∙ is))))

-- the ports failed exactly where it is told
ports_rose : {E M B : Type 0} (order : TalkOrder) (ending : TalkEnding) (run : Handed E M B) (s : talked.Streams) → ComesToTalk order ending run s → RoseBy PortFailed (talk_status ending) run.before.faults run.after.faults
ports_rose order endings.Finished run s (end, ran, is, printed) = stays PortFailed (talk_status endings.Finished) _ _ (λ e. cc) ran.2.no_fault
ports_rose order endings.LinkLost run s (end, ran, is, printed) = stays PortFailed (talk_status endings.LinkLost) _ _ (λ e. cc) ran.2.no_fault
ports_rose order endings.BookFailed run s (end, ran, is, printed) = stays PortFailed (talk_status endings.BookFailed) _ _ (λ e. cc) ran.2.no_fault
ports_rose order (endings.Refused place reason) run s (nothing, same, refuses) =
    stays PortFailed (talk_status (endings.Refused place reason)) _ _ (λ e. cc) (ap (λ (p : PortsTold). p.faults) nothing.0)
ports_rose order endings.ReadFailed run s (nothing, same) = stays PortFailed (talk_status endings.ReadFailed) _ _ (λ e. cc) (ap (λ (p : PortsTold). p.faults) nothing.0)
ports_rose order endings.WriteFailed run s (inl (nothing, same)) = stays PortFailed (talk_status endings.WriteFailed) _ _ (λ e. cc) (ap (λ (p : PortsTold). p.faults) nothing.0)
ports_rose order endings.WriteFailed run s (inr (end, ran, printed)) = stays PortFailed (talk_status endings.WriteFailed) _ _ (λ e. cc) ran.2.no_fault
ports_rose order endings.PortFailed run s (fails, same, read) = record { rose = λ _. fails.0.risen; stands = λ other _. absurd (other refl) }

-- no crew is asked
no_crew : (ending : TalkEnding) → talk_status ending ≢ CrewRefused
no_crew endings.Finished e = cc
no_crew endings.LinkLost e = cc
no_crew endings.BookFailed e = cc
no_crew (endings.Refused place reason) e = cc
no_crew endings.ReadFailed e = cc
no_crew endings.WriteFailed e = cc
no_crew endings.PortFailed e = cc

-- there was memory
some_way : (ending : TalkEnding) → talk_ending ending ≢ ways.NoMemory
some_way endings.Finished e = cc
some_way endings.LinkLost e = cc
some_way endings.BookFailed e = cc
some_way (endings.Refused place reason) e = cc
some_way endings.ReadFailed e = cc
some_way endings.WriteFailed e = cc
some_way endings.PortFailed e = cc

pub has_memory : (ending : TalkEnding) (way : Ending ScriptReason) → way ≡ talk_ending ending → way ≢ ways.NoMemory
has_memory ending way is e = some_way ending (sym is ∙ e)

-- a script isn't refused
refuses_none : {E M B : Type 0} → ScriptsAreExact → (order : TalkOrder) (run : Handed E M B) (before after : Streams) → TellsTalk order run InputRefused before after
    → (input : List ℕ) × (before.source.left ≡ Some input) × ((script : List Due) × IsScript input script) → ⊥
refuses_none exact order run before after (nothing, (place, reason, none, line)) (input, is, (script, is_script)) =
    exact.not_both input script place reason is_script (none input is)

-- a talk against which nothing stood
abbrev IsSmooth : {E M B : Type 0} → TalkOrder → Handed E M B → Type 0
IsSmooth order run = (script : List Due) (end : TalkEnd) (talks : Talks order script end run) → IsUntroubled order script end run talks

loses_none : {E M B : Type 0} (order : TalkOrder) (run : Handed E M B) (before after : Streams) → TellsTalk order run LinkLost before after → IsSmooth order run → ⊥
loses_none order run before after ran smooth =
    let talks = ran.ran.2 in
    (smooth ran.ran.0 ran.end talks).no_link_lost (talks.talked.is_end.lost.0 (lost_flag ran.end.lost ran.end.book_failed (sym ran.status_is)))

fails_none : {E M B : Type 0} (order : TalkOrder) (run : Handed E M B) (before after : Streams) → TellsTalk order run BookFailed before after → IsSmooth order run → ⊥
fails_none order run before after ran smooth =
    let talks = ran.ran.2 in
    (smooth ran.ran.0 ran.end talks).no_book_failed (talks.talked.failed (failed_flag ran.end.lost ran.end.book_failed (sym ran.status_is)))

-- the whole run
pub ran : {E M B : Type 0} (order : TalkOrder) (ending : TalkEnding) (status : Status) (before mid after : Streams) (run : Handed E M B) (crew : ℕ) → ScriptsAreExact
    → ComesToTalk order ending run (talk_streams before mid) → HasCauses (counts before) (counts mid) (failed_device ending)
    → WritesLast (talk_last_line ending) (talk_status ending) status mid after
    → RunsCommand (talk_terms order run) status before after (beside (count_from run.before.faults run.after.faults) (count_from crew crew))
ran order ending status before mid after run crew exact came causes last =
    let own : Status = talk_status ending in
    let others : Beside = beside (count_from run.before.faults run.after.faults) (count_from crew crew) in
    let cause : HasCause status before after others = cause_from own (failed_device ending) (talk_last_line ending) status before mid after others (told ending) causes last
    (ports_rose order ending run (talk_streams before mid) came) (stays CrewRefused own crew crew (no_crew ending) refl) in
    let left : after.source.left ≡ mid.source.left = ap (λ (told : SourceTold). told.left) last.input_untouched in
    let tells : TellsTalk order run status before after = elim (is_write_failed status) [
      | inl four ↦
          let sound = λ (e : ending ≡ endings.ReadFailed). sound_from own (failed_device ending) (talk_last_line ending) status before mid after causes last (ap failed_device e) in
          subst (λ (s : Status). TellsTalk order run s before after) (sym four) (cut_tells order ending before mid after run left sound last.part came)
      | inr other ↦
          let its : status ≡ own = own_status own status last.answer other in
          subst (λ (s : Status). TellsTalk order run s before after) (sym its)
          (own_tells order ending before mid after run (λ e. other (its ∙ e)) left (last.whole other) came)
    ] in
    runs_by (talk_terms order run) status before after others cause tells (refuses_none exact order run before after) (λ t. t)
    (loses_none order run before after) (fails_none order run before after)

-- there was no memory
pub no_run : {E M B : Type 0} (order : TalkOrder) (before after : Streams) (run : Handed E M B) (crew : ℕ) → ScriptsAreExact → AsksNothing run → after.sink.written ≡ before.sink.written → after.source.faults ≡ before.source.faults
    → after.sink.faults ≡ before.sink.faults → RunsCommand (talk_terms order run) NoMemory before after (beside (count_from run.before.faults run.after.faults) (count_from crew crew))
no_run order before after run crew exact nothing written reads writes =
    let others : Beside = beside (count_from run.before.faults run.after.faults) (count_from crew crew) in
    runs_by (talk_terms order run) NoMemory before after others (memory_cause before after others reads writes (ap (λ (p : PortsTold). p.faults) nothing.0) refl)
    (nothing, written, reads, writes) (refuses_none exact order run before after) (λ t. t) (loses_none order run before after) (fails_none order run before after)
