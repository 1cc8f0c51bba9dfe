-- What passes a bridge stands in a trail.
use Rattle.m17_client.specs.BridgeLaws.{PassingIsKept, SidesAreClientsEnds}
use Rattle.m17_client.specs.CrossRun.{steps_of}
use Rattle.m17_client.specs.Sides.{of}
use Rattle.m17_client.specs.BridgeSteps.{steps_on}
use Rattle.std.proofs.Common.{◌++◌}
use Rattle.m17_laws.specs.ClientAndLinkLaws.{BothEndsAgree, BridgesAgree}

pub bridges_agree : {E M B L : Type 0} → BothEndsAgree E M B → PassingIsKept → SidesAreClientsEnds L → BridgesAgree E M B L
bridges_agree ends kept_law sides run headline i way plan turns leaves side may link nothing at kept passes =
    (ends run headline i way (of side plan.ends) (steps_on side (steps_of turns ++ leaves)) link nothing (sides way plan turns leaves side may at)).in_trails
    kept.packet (kept_law (steps_of turns ++ leaves) side kept passes)
