-- The frame that the code keeps, as contracts see it, and how it is told which opening a packet is of.
use Rattle.std.specs.Prelude.{Bool, true, false}
use Rattle.m17_floor.specs.declared.floor.AdmittedFrame.{AdmittedFrame}
use Rattle.m17_floor.specs.declared.verdict.Verdict.{Verdict}
use Rattle.m17_floor.specs.declared.verdict.Verdict.TheVariants.{Continued}
use Rattle.m17_floor.specs.Rule.{Frame}

-- its fields, as they are
abbrev pub frame_seen : AdmittedFrame → Frame
frame_seen kept = record {
  member = kept.member;
  sid = kept.sid;
  number = kept.number;
  last = kept.last;
  at = kept.at;
  opened = kept.opened;
}

-- a packet with this verdict is of the opening that the floor's frame is of
abbrev pub continues : Verdict → Bool
continues Continued = true
continues _ = false
