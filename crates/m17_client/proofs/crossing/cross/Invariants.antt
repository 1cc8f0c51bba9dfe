use Rattle.std.proofs.Common.{◌≢◌, List}
use Rattle.std.specs.List.{All}
use Rattle.m17_values.specs.declared.heard.Heard.TheVariants.{End}
use Rattle.m17_ports.specs.Ear.{HasHeard}
use Rattle.m17_client.specs.declared.side.Side.{Side}
use Rattle.m17_client.specs.Sides.{both, of}
use Rattle.m17_client.specs.CrossRun.{CrossPlan, CrossTurn, entries_on}
use Rattle.m17_client.specs.CrossSoFar.{GoesOn, IsSoFar}
use Rattle.m17_client.proofs.CrossEnded.{origin_of}
use Rattle.m17_client.proofs.crossing.cross.Given as goal

abbrev pub invariant-loop : goal.invariant-loop
invariant-loop g l =
    let plan : CrossPlan = record { ends = l.fn.bridge.clients; to = both l.near_to l.far_to } in
    let mouths = both (g.M.Mouth.told l.initial.near_mouth) (g.M.Mouth.told l.initial.far_mouth) in
    let ears = both (g.E.Ear.told l.initial.near_ear) (g.E.Ear.told l.initial.far_ear) in
    (turns : List CrossTurn)
    × IsSoFar (origin_of plan mouths) turns l.run
    (both (g.M.Mouth.told l.near_mouth) (g.M.Mouth.told l.far_mouth))
    × GoesOn plan turns × ((side : Side) → All (λ entry. entry ≢ End) (entries_on side turns))
    × ((side : Side) → HasHeard (of side ears) (entries_on side turns)
    (of side (both (g.E.Ear.told l.near_ear) (g.E.Ear.told l.far_ear))))
