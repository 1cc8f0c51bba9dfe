-- What is told of the devices of a talk, and of the ports that hand them out.
use Rattle.std.specs.Prelude.{ℕ, ◌<◌, ◌≤◌, List, length, take}
use Rattle.m17_io.specs.Faults.{HasRisen}
use Rattle.m17_ports.specs.Ear.{IsNewEar}
use Rattle.m17_ports.specs.Mouth.{IsNewMouth}
use Rattle.m17_ports.specs.Book.{IsNewBook}
use Rattle.m17_ports.specs.Ports.{HasAsked, PortsTold, next_number}
use Rattle.m17_ports.specs.declared.question.Question.{Question}
pub use Rattle.m17_client.specs.TalkDevices.{DevicesTold, devices_told}

-- The devices are new: nothing was heard, said or written, and none has failed. Each has the number of the call that
-- handed it out: those of the link this one, and the book the next.
pub record AreNew {E M B : Type 0} (call : ℕ) (d : DevicesTold E M B) : Type 0 where
  pub ear : IsNewEar call d.ear
  pub mouth : IsNewMouth call d.mouth
  pub book : IsNewBook (next_number call) d.book

-- The first of these questions were asked, up to one at which the ports failed.
pub record FailsAmong (questions : List Question) (before after : PortsTold) : Type 0 where
  pub count : ℕ
  pub some : 0 < count
  pub few : count ≤ length questions
  pub asked : HasAsked (take count questions) before after
  pub risen : HasRisen before.faults after.faults
