-- What a run of `talk` promises.
use Rattle.std.specs.Prelude.{◌≡◌, ◌⊎◌, ℕ, ◌<◌, List, [], ◌++◌, Option, Some}
use Rattle.m17_io.specs.Faults.{HasRisen}
use Rattle.m17_print.specs.Endings.{input_refused_line, last_line, port_failed_line, read_failed_line}
use Rattle.m17_client.specs.declared.talking.TalkEnd.{TalkEnd}
use Rattle.m17_client.specs.Talk.{IsLost}
use Rattle.m17_words.specs.declared.order.TalkOrder.{TalkOrder}
use Rattle.m17_client_commands.specs.declared.talk_ending.TalkEnding.{TalkEnding}
use Rattle.m17_client_commands.specs.declared.reason.ScriptReason.{ScriptReason}
use Rattle.m17_client_commands.specs.Devices.{DevicesTold}
use Rattle.m17_client_commands.specs.TalkEndings.{talk_ending}
use Rattle.m17_client_commands.specs.Reasons.{script_reason_words}
use Rattle.m17_client_commands.specs.Script.{Due, IsScript, RefusesScript}
use Rattle.m17_client_commands.specs.Talked.{ending_of, talk_line, AsksNothing, FailsAtPort, Handed, HasRead, HasRun, Talks}
use Rattle.m17_client_commands.specs.Talked as talked
use Rattle.m17_app.specs.declared.status.Status.{Status}
use Rattle.m17_app.specs.declared.status.Status.TheVariants.{Finished, InputRefused, ReadFailed, WriteFailed, PortFailed, LinkLost, BookFailed, NoMemory}
use Rattle.m17_app.specs.Status.{Streams, status_of}
use Rattle.m17_app.specs.Terms.{Terms}
use Rattle.m17_app.specs.Written.{Adds, AddsPart}

-- the last line of a run that ended so, if it has one, and its status where that line could be written
abbrev pub talk_last_line : TalkEnding → List ℕ
talk_last_line ending = last_line script_reason_words (talk_ending ending)

abbrev pub talk_status : TalkEnding → Status
talk_status ending = status_of (talk_ending ending)

-- what the streams tell before a run and after it
abbrev pub talk_streams : Streams → Streams → talked.Streams
talk_streams before after = record {
  left = before.source.left;
  rest = after.source.left;
  first = before.sink.written;
  written = after.sink.written;
}

-- the text of a talk that came to this end: its line, and then the last line of its status
abbrev pub talk_text : TalkEnd → List ℕ
talk_text end = talk_line end ++ talk_last_line (ending_of end)

-- the input is no script, at this place and for this reason
abbrev pub IsNoScript : ℕ → ScriptReason → Streams → Type 0
IsNoScript place reason before =
    (input : List ℕ) → before.source.left ≡ Some input → RefusesScript input place reason

-- the input is refused, and the one line says where and why
abbrev pub RefusedTalk : Streams → Streams → Type 0
RefusedTalk before after = (place : ℕ) × (reason : ScriptReason) × IsNoScript place reason before
    × Adds (input_refused_line place (script_reason_words reason)) before after

-- the last line of a run that ended before it asked the ports, if it has one
abbrev pub IsEarlyLine : List ℕ → Streams → Streams → Type 0
IsEarlyLine line before after = (line ≡ [])
    ⊎ ((line ≡ read_failed_line) × HasRisen before.source.faults after.source.faults)
    ⊎ ((place : ℕ) × (reason : ScriptReason) × IsNoScript place reason before
    × (line ≡ input_refused_line place (script_reason_words reason)))

module _ {E M B : Type 0} where
  -- The talk ran over its devices, which are handed back, to an end with this status, and its text stands written. The
  -- link is lost only where the ear's count of faults is above 0, and the book has failed only where the book's is:
  -- both counts began at 0.
  pub record RanTalk (order : TalkOrder) (status : Status) (before after : Streams)
      (run : Handed E M B) : Type 0 where
    pub end : TalkEnd
    pub ran : HasRun order end run (talk_streams before after)
    pub status_is : status ≡ talk_status (ending_of end)
    pub text : Adds (talk_text end) before after
    pub lost : status ≡ LinkLost → (d : DevicesTold E M (Option B)) → run.devices ≡ Some d
        → 0 < d.ear.faults
    pub failed : status ≡ BookFailed → (d : DevicesTold E M (Option B)) → run.devices ≡ Some d
        → 0 < d.book.faults

  -- The sink failed: before the ports were asked, after they failed, or after the talk had run; a first part of the text
  -- of such a run stands written.
  abbrev pub CutsTalk : TalkOrder → Streams → Streams → Handed E M B → Type 0
  CutsTalk order before after run = (AsksNothing run
      × ((line : List ℕ) × IsEarlyLine line before after × AddsPart line before after))
      ⊎ (FailsAtPort order run × AddsPart port_failed_line before after)
      ⊎ ((end : TalkEnd) × HasRun order end run (talk_streams before after)
      × AddsPart (talk_text end) before after)

  -- What each status says of a run of `talk`.
  abbrev pub TellsTalk : TalkOrder → Handed E M B → Status → Streams → Streams → Type 0
  TellsTalk order run Finished before after = RanTalk order Finished before after run
  TellsTalk order run LinkLost before after = RanTalk order LinkLost before after run
  TellsTalk order run BookFailed before after = RanTalk order BookFailed before after run
  TellsTalk order run InputRefused before after = AsksNothing run × RefusedTalk before after
  TellsTalk order run ReadFailed before after = AsksNothing run
      × Adds read_failed_line before after
  TellsTalk order run WriteFailed before after = CutsTalk order before after run
  TellsTalk order run PortFailed before after = FailsAtPort order run
      × ((script : List Due) × HasRead script (talk_streams before after))
      × Adds port_failed_line before after
  -- before the ports are asked and anything is written, and no device has failed then
  TellsTalk order run NoMemory before after = AsksNothing run
      × (after.sink.written ≡ before.sink.written)
      × (after.source.faults ≡ before.source.faults) × (after.sink.faults ≡ before.sink.faults)
  TellsTalk order run _ before after = ⊥

  -- Nothing stood against the talks that ran: the ear's list didn't end in 16 Faults, and no count of the book rose.
  pub record IsUntroubled (order : TalkOrder) (script : List Due) (end : TalkEnd)
      (run : Handed E M B) (talks : Talks order script end run) : Type 0 where
    pub no_link_lost : ¬ IsLost talks.talked.turns
    pub no_book_failed : ¬ HasRisen talks.new.book.faults talks.devices.book.faults

  abbrev pub talk_terms : TalkOrder → Handed E M B → Terms
  talk_terms order run = record {
    tells = TellsTalk order run;
    takes = λ left. (input : List ℕ) × (left ≡ Some input)
        × ((script : List Due) × IsScript input script);
    untroubled = λ left. (script : List Due) (end : TalkEnd)
        (talks : Talks order script end run) → IsUntroubled order script end run talks;
  }
