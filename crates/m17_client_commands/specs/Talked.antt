-- What `talk` asks, does and prints, and how it ends.
use Rattle.std.specs.Prelude.{◌≡◌, ◌⊎◌, ◌↔◌, ℕ, List, [], ◌∷◌, ◌++◌, codes, decimal, string_bytes, Option, None, Some, IsSome, if◌then◌else◌}
use Rattle.std.specs.Option.{option_map}
use Rattle.m17_io.specs.Sink.{AppendsPrefix}
use Rattle.m17_io.specs.declared.fault.Fault.{Fault}
use Rattle.m17_io.specs.declared.fault.Fault.TheVariants.{Read, Write}
use Rattle.m17_ports.specs.Ports.{HasAsked, PortsTold}
use Rattle.m17_ports.specs.declared.question.Question.{Question}
use Rattle.m17_ports.specs.declared.question.Question.TheVariants.{Link, Book}
use Rattle.m17_client.specs.declared.state.Ending.{Ending}
use Rattle.m17_client.specs.declared.state.Ending.TheVariants.{Asked, Refused, Lost, Dropped, NoAnswer}
use Rattle.m17_client.specs.declared.state.State.{State}
use Rattle.m17_client.specs.declared.state.State.TheVariants.{Idle, Connecting, Connected, Leaving, Closed}
use Rattle.m17_client.specs.declared.talking.TalkEnd.{TalkEnd}
use Rattle.m17_client.specs.Standing.{new_client}
use Rattle.m17_client.specs.Talk.{TalkPlan, IsInOrder}
use Rattle.m17_client.specs.TalkDevices.{HasTalked}
use Rattle.m17_words.specs.declared.order.TalkOrder.{TalkOrder}
use Rattle.m17_client_commands.specs.declared.talk_ending.TalkEnding.{TalkEnding}
use Rattle.m17_client_commands.specs.declared.talk_ending.TalkEnding.TheVariants as endings
use Rattle.m17_client_commands.specs.Devices.{DevicesTold, AreNew, FailsAmong}
use Rattle.m17_client_commands.specs.Script.{Due, IsScript, RefusesScript}

-- What a talk asks of the ports, in order: its link, which never ends by itself, and then its book, where one is named.
abbrev pub book_questions : Option (List ℕ) → List Question
book_questions None = []
book_questions (Some name) = Book name ∷ []

abbrev pub questions_of : TalkOrder → List Question
questions_of order =
    Link (string_bytes order.bind) None ∷ book_questions (option_map string_bytes order.book)

-- the run of the client: that which the words and the script ask for
abbrev pub talk_plan : TalkOrder → List Due → TalkPlan
talk_plan order script = record {
  to = order.to;
  client = new_client order.call order.letter order.listen;
  script = script;
  stay = order.stay;
}

-- What is told of a run of the command beside its streams: of the ports before it and after it, and of the devices that
-- it hands back, where it does. Its ear, its mouth and its book have labels of these kinds; the book may be missing, and
-- then it has none.
pub record Handed (E M B : Type 0) : Type 0 where
  pub before : PortsTold
  pub after : PortsTold
  pub devices : Option (DevicesTold E M (Option B))

module _ {E M B : Type 0} where
  abbrev pub handed : PortsTold → PortsTold → Option (DevicesTold E M (Option B)) → Handed E M B
  handed before after devices = record { before = before; after = after; devices = devices }

  -- no port was asked for anything, and no device is handed back
  abbrev pub AsksNothing : Handed E M B → Type 0
  AsksNothing run = (run.after ≡ run.before) × (run.devices ≡ None)

  -- The ports failed at the last of the questions that were asked, which are the first of those of the talk. No device is
  -- handed back.
  abbrev pub FailsAtPort : TalkOrder → Handed E M B → Type 0
  FailsAtPort order run = FailsAmong (questions_of order) run.before run.after
      × (run.devices ≡ None)

  -- The talk ran over the devices that the ports handed out, which were new, and they are handed back. There is a book
  -- exactly where one is named.
  pub record Talks (order : TalkOrder) (script : List Due) (end : TalkEnd) (run : Handed E M B)
      : Type 0 where
    pub asked : HasAsked (questions_of order) run.before run.after
    pub no_fault : run.after.faults ≡ run.before.faults
    pub new : DevicesTold E M (Option B)
    pub are_new : AreNew run.before.calls new
    pub devices : DevicesTold E M (Option B)
    pub handed_back : run.devices ≡ Some devices
    pub book_there : IsSome devices.book.device.label ↔ IsSome order.book
    pub talked : HasTalked (talk_plan order script) end new devices

-- the word for why a client is closed
abbrev pub ending_word : Ending → List ℕ
ending_word Asked = codes "asked"
ending_word Refused = codes "refused"
ending_word Lost = codes "lost"
ending_word Dropped = codes "dropped"
ending_word NoAnswer = codes "no-answer"

-- what is said of the client's state at the end
abbrev pub state_words : State → List ℕ
state_words (Closed why) = codes "closed " ++ ending_word why
state_words Idle = codes "ended"
state_words (Connecting tries) = codes "ended"
state_words (Connected heard_at) = codes "ended"
state_words Leaving = codes "ended"

-- The line of a talk: what became of the client, and how many packets it kept.
abbrev pub talk_line : TalkEnd → List ℕ
talk_line end = state_words end.state ++ codes " kept " ++ decimal end.kept ++ 10 ∷ []

-- how the command ends where the talk ran and its line was written: a lost link comes before a failed book
abbrev pub ending_of : TalkEnd → TalkEnding
ending_of end =
    if end.lost then endings.LinkLost
    else (if end.book_failed then endings.BookFailed else endings.Finished)

-- the device of the streams that failed, where the command ended so
abbrev pub failed_device : TalkEnding → Option Fault
failed_device endings.Finished = None
failed_device endings.LinkLost = None
failed_device endings.BookFailed = None
failed_device (endings.Refused place reason) = None
failed_device endings.ReadFailed = Some Read
failed_device endings.WriteFailed = Some Write
failed_device endings.PortFailed = None

-- What the streams tell: what was left of the input before the run and what is left now, and what stood written before
-- it and what stands written now.
pub record Streams : Type 0 where
  pub left : Option (List ℕ)
  pub rest : Option (List ℕ)
  pub first : Option (List ℕ)
  pub written : Option (List ℕ)

-- the input was read to its end, and is this script
abbrev pub HasRead : List Due → Streams → Type 0
HasRead script s = IsInOrder script × ((input : List ℕ) → s.left ≡ Some input
    → IsScript input script × (s.rest ≡ Some []))

-- the whole line of this end was written, or where the sink failed a first part of it
abbrev pub HasPrinted : TalkEnd → Streams → Type 0
HasPrinted end s = (before : List ℕ) → s.first ≡ Some before
    → s.written ≡ Some (before ++ talk_line end)

abbrev pub HasPrintedPart : TalkEnd → Streams → Type 0
HasPrintedPart end s = (before : List ℕ) → s.first ≡ Some before
    → AppendsPrefix before (talk_line end) s.written

module _ {E M B : Type 0} where
  -- The input was read to its end, and then the talk ran to this end.
  abbrev pub HasRun : TalkOrder → TalkEnd → Handed E M B → Streams → Type 0
  HasRun order end run s = (script : List Due) × HasRead script s × Talks order script end run

  -- the talk ran, its line was written, and this is how the command ends then
  abbrev pub EndsTalk : TalkOrder → TalkEnding → Handed E M B → Streams → Type 0
  EndsTalk order ending run s = (end : TalkEnd) × HasRun order end run s
      × (ending ≡ ending_of end) × HasPrinted end s

  -- What each ending of `talk` says. It reads its input whole before it asks the ports for anything, and writes nothing
  -- before the talk has run.
  abbrev pub ComesToTalk : TalkOrder → TalkEnding → Handed E M B → Streams → Type 0
  ComesToTalk order endings.Finished run s = EndsTalk order endings.Finished run s
  ComesToTalk order endings.LinkLost run s = EndsTalk order endings.LinkLost run s
  ComesToTalk order endings.BookFailed run s = EndsTalk order endings.BookFailed run s
  ComesToTalk order (endings.Refused place reason) run s = AsksNothing run × (s.written ≡ s.first)
      × ((input : List ℕ) → s.left ≡ Some input → RefusesScript input place reason)
  ComesToTalk order endings.ReadFailed run s = AsksNothing run × (s.written ≡ s.first)
  ComesToTalk order endings.PortFailed run s = FailsAtPort order run × (s.written ≡ s.first)
      × ((script : List Due) × HasRead script s)
  ComesToTalk order endings.WriteFailed run s = (AsksNothing run × (s.written ≡ s.first))
      ⊎ ((end : TalkEnd) × HasRun order end run s × HasPrintedPart end s)
