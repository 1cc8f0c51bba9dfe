-- What a run of `cross` does with the devices of both sides, and what it answers.
use Rattle.std.specs.Prelude.{◌≡◌, ◌↔◌, IsTrue, ◌-◌, ◌^◌, min, List, ◌++◌, length}
use Rattle.m17_io.specs.Faults.{HasRisen}
use Rattle.m17_ports.specs.Ear.{EarTold, HasHeard}
use Rattle.m17_ports.specs.Mouth.{MouthTold, SaidOf}
use Rattle.m17_client.specs.TalkDevices.{datagrams_to, says_of}
use Rattle.m17_client.specs.declared.side.Side.{Side}
use Rattle.m17_client.specs.declared.side.Side.TheVariants.{Near, Far}
use Rattle.m17_client.specs.declared.crossing.BridgeEnd.{BridgeEnd}
use Rattle.m17_client.specs.Sides.{Both, both, of}
use Rattle.m17_client.specs.BridgeSteps.{BridgeStep, passing_from, steps_on}
use Rattle.m17_client.specs.Promise.{KeepsPromise}
use Rattle.m17_client.specs.CrossRun.{CrossPlan, CrossTurn, IsCrossRun, IsLost, IsLostOn, entries_on, steps_of}

-- What the devices of both sides tell: the ears and the mouths.
pub record DevicesTold (E M : Type 0) : Type 0 where
  pub ears : Both (EarTold E)
  pub mouths : Both (MouthTold M)

module _ {E M : Type 0} where
  abbrev pub devices_told : EarTold E → MouthTold M → EarTold E → MouthTold M → DevicesTold E M
  devices_told near_ear near_mouth far_ear far_mouth = record {
    ears = both near_ear far_ear;
    mouths = both near_mouth far_mouth;
  }

-- What `cross` answers: how many packets of each side passed, counted to 2^64 - 1, and whether an
-- ear failed 16 times.
pub record IsBridgeEnd (turns : List CrossTurn) (steps : List BridgeStep) (answer : BridgeEnd)
    : Type 0 where
  pub near : answer.near ≡ min (length (passing_from Near steps)) (2 ^ 64 - 1)
  pub far : answer.far ≡ min (length (passing_from Far steps)) (2 ^ 64 - 1)
  pub lost : IsTrue answer.lost ↔ IsLost turns

-- The bridge crossed over these devices and came to this end: the ears heard the entries of the
-- run, and each mouth was to say what the steps of its side say, to its reflector. They are the
-- same devices.
pub record HasCrossed {E M : Type 0} (plan : CrossPlan) (answer : BridgeEnd)
    (before after : DevicesTold E M) : Type 0 where
  pub turns : List CrossTurn
  pub leaves : List BridgeStep
  pub is_run : IsCrossRun plan turns leaves
  pub is_end : IsBridgeEnd turns (steps_of turns ++ leaves) answer
  pub promise : KeepsPromise (steps_of turns ++ leaves)
  pub heard : (side : Side)
      → HasHeard (of side before.ears) (entries_on side turns) (of side after.ears)
  pub said : (side : Side) → SaidOf (of side before.mouths)
      (datagrams_to (of side plan.to) (says_of (steps_on side (steps_of turns ++ leaves))))
      (of side after.mouths)
  pub lost : (side : Side) → IsLostOn side turns
      → HasRisen (of side before.ears).faults (of side after.ears).faults
