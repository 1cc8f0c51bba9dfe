-- What follows from the definitions for every run of a bridge.
use Rattle.std.specs.Prelude.{◌≡◌, List, ◌++◌, Some, Contains}
use Rattle.m17_ports.specs.Told.{StartsEmpty}
use Rattle.m17_ports.specs.Mouth.{MouthTold, SaidOf}
use Rattle.m17_client.specs.Standing.{Standing}
use Rattle.m17_client.specs.TalkDevices.{datagrams_to, says_of}
use Rattle.m17_client.specs.Way.{IsClientsEnd, Way, keeps_of}
use Rattle.m17_client.specs.declared.side.Side.{Side}
use Rattle.m17_client.specs.Sides.{Both, of}
use Rattle.m17_client.specs.Passing.{Kept}
use Rattle.m17_client.specs.BridgeSteps.{BridgeStep, IsBridgeRun, passing_from, steps_on}
use Rattle.m17_client.specs.StandsFor.{MayBeJoined}
use Rattle.m17_client.specs.Promise.{KeepsPromise}
use Rattle.m17_client.specs.CrossRun.{CrossPlan, CrossTurn, IsCrossRun, entries_on, steps_of}

-- A run of a bridge between two clients that may be joined keeps the promise.
abbrev pub BridgesTakeTurns : Type 0
BridgesTakeTurns = (ends : Both Standing) (steps : List BridgeStep) → MayBeJoined ends
    → IsBridgeRun ends steps → KeepsPromise steps

-- Each packet of a side that passes is one that its client keeps.
abbrev pub PassingIsKept : Type 0
PassingIsKept = (steps : List BridgeStep) (side : Side) (kept : Kept)
    → Contains (passing_from side steps) kept
    → Contains (keeps_of (steps_on side steps)) kept.packet

-- A side of a run of `cross` over a new mouth, with the reflector of the way; the client's end of
-- the way tells what the ear of the side heard in this run, and what its mouth said, which has a
-- label of kind L.
pub record IsSideOf (L : Type 0) (way : Way) (plan : CrossPlan) (turns : List CrossTurn)
    (leaves : List BridgeStep) (side : Side) : Type 0 where
  pub to : of side plan.to ≡ way.reflector
  pub run : IsCrossRun plan turns leaves
  pub heard : way.client_heard ≡ entries_on side turns
  pub before : MouthTold L
  pub after : MouthTold L
  pub new_mouth : StartsEmpty before.said
  pub has_said : SaidOf before
      (datagrams_to (of side plan.to) (says_of (steps_on side (steps_of turns ++ leaves)))) after
  pub told : after.said ≡ Some way.client_said

-- Such a side is a client's end of the way, so all that is known of one is known of it.
abbrev pub SidesAreClientsEnds : (L : Type 0) → Type 0
SidesAreClientsEnds L =
    (way : Way) (plan : CrossPlan) (turns : List CrossTurn) (leaves : List BridgeStep) (side : Side)
    → MayBeJoined plan.ends → IsSideOf L way plan turns leaves side
    → IsClientsEnd way (of side plan.ends) (steps_on side (steps_of turns ++ leaves))
