-- What follows for a client and a link of a run of the reflector.
use Rattle.std.specs.Prelude.{ℕ, List, ◌++◌, Contains}
use Rattle.m17_reflect.specs.Headline.{Headline}
use Rattle.m17_reflect.specs.Run.{Run}
use Rattle.m17_client.specs.Standing.{Standing}
use Rattle.m17_client.specs.Laws.{IsTalkOver}
use Rattle.m17_client.specs.Steps.{ClientStep}
use Rattle.m17_client.specs.Talk.{TalkPlan, Turn, steps_of}
use Rattle.m17_client.specs.Way.{IsClientsEnd, NothingInvented, Way}
use Rattle.m17_client.specs.declared.side.Side.{Side}
use Rattle.m17_client.specs.CrossRun as bridge
use Rattle.m17_client.specs.CrossRun.{CrossPlan, CrossTurn}
use Rattle.m17_client.specs.BridgeLaws.{IsSideOf}
use Rattle.m17_client.specs.Passing.{Kept}
use Rattle.m17_client.specs.StandsFor.{MayBeJoined}
use Rattle.m17_client.specs.BridgeSteps.{BridgeStep, passing_from}
use Rattle.m17_laws.specs.BothEnds.{EndsAgree, IsInATrail, IsLinksEnd}

-- Of a run of the reflector that meets its headline, and a client at the other end of a way on which
-- nothing is made up: both ends agree.
abbrev pub BothEndsAgree : (E M B : Type 0) → Type 0
BothEndsAgree E M B =
    (run : Run E M B) (headline : Headline run) (i : ℕ) (way : Way) (first : Standing)
    (steps : List ClientStep) → IsLinksEnd run i way → NothingInvented way
    → IsClientsEnd way first steps → EndsAgree run i way first steps

-- The same of a run of `talk` as the client's end, whose mouth has a label of kind L.
abbrev pub TalksAgree : (E M B L : Type 0) → Type 0
TalksAgree E M B L =
    (run : Run E M B) (headline : Headline run) (i : ℕ) (way : Way) (plan : TalkPlan)
    (turns : List Turn) → IsLinksEnd run i way → NothingInvented way
    → IsTalkOver L way plan turns → EndsAgree run i way plan.client (steps_of turns)

-- The same of a run of a bridge, one side of which is the client's end: each packet of that side that passes is an
-- admitted one, or a parrot's echo, in some module's trail.
abbrev pub BridgesAgree : (E M B L : Type 0) → Type 0
BridgesAgree E M B L =
    (run : Run E M B) (headline : Headline run) (i : ℕ) (way : Way) (plan : CrossPlan)
    (turns : List CrossTurn) (leaves : List BridgeStep) (side : Side) → MayBeJoined plan.ends
    → IsLinksEnd run i way → NothingInvented way → IsSideOf L way plan turns leaves side
    → (kept : Kept) → Contains (passing_from side (bridge.steps_of turns ++ leaves)) kept
    → IsInATrail run kept.packet
