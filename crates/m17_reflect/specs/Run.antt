-- A run of the reflector, as it shows itself: the devices before and after, and what comes back
-- beside them.
use Rattle.std.specs.Prelude.{ℕ, Bool, List, Option}
use Rattle.m17_ports.specs.Book.{BookTold}
use Rattle.m17_ports.specs.Ear.{EarTold}
use Rattle.m17_ports.specs.Mouth.{MouthTold}
use Rattle.m17_control.specs.declared.event.Event.{Event}
use Rattle.m17_control.specs.declared.item.Item.{Item}
use Rattle.m17_floor.specs.declared.verdict.Verdict.{Verdict}
use Rattle.m17_directory.specs.declared.verdict.LinkVerdict.{LinkVerdict}
use Rattle.m17_lane.specs.Ends.{TrailEnd}
use Rattle.m17_roll.specs.Closing.{EndView}
use Rattle.m17_plan.specs.declared.plan.Plan.{Plan}
pub use Rattle.m17_plan.specs.Planned.{module_count}

-- What the devices tell: an ear, a mouth and a trace for each link, and a book for each module.
-- Ears have labels of kind E, mouths of kind M, traces and books of kind B.
pub record Devices (E M B : Type 0) : Type 0 where
  pub ears : List (EarTold E)
  pub mouths : List (MouthTold M)
  pub traces : List (BookTold B)
  pub books : List (BookTold B)

-- What comes back of the threads: of each module its inbox, its queues by place, how many items
-- were left out and how many packets admitted; the roll; the tapes of links and modules; and
-- whether a link was lost, and a book or trace failed.
pub record Handed : Type 0 where
  pub trails : List (TrailEnd Event)
  pub queues : List (List (TrailEnd Item))
  pub roll : EndView
  pub missed : List ℕ
  pub admitted : List ℕ
  pub link_tapes : List (List (Option LinkVerdict))
  pub tapes : List (List (Option Verdict))
  pub lost : Bool
  pub book_failed : Bool

-- A run of this plan.
pub record Run (E M B : Type 0) : Type 0 where
  pub plan : Plan
  pub before : Devices E M B
  pub after : Devices E M B
  pub handed : Handed
