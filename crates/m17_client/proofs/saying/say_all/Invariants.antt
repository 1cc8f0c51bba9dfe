use Rattle.std.proofs.Common.{ℕ, List, ◌++◌, take}
use Rattle.m17_ports.specs.Mouth.{MouthTold, SaidOf}
use Rattle.m17_client.specs.TalkDevices.{datagrams_to}
use Rattle.m17_client.specs.declared.side.Side.TheVariants.{Near, Far}
use Rattle.m17_client.specs.BridgeSteps.{said_on}
use Rattle.m17_client.proofs.saying.say_all.Given as goal

abbrev pub invariant-loop-cross : goal.invariant-loop-cross
invariant-loop-cross g l = record {
  near : (start : MouthTold g.row.M-Label.Denot) (before : List (List ℕ))
      → SaidOf start (datagrams_to l.near_to before) (g.M.Mouth.told l.initial.near_mouth)
      → SaidOf start (datagrams_to l.near_to (before ++ said_on Near (take l.cross-index l.crosses)))
      (g.M.Mouth.told l.near_mouth);
  far : (start : MouthTold g.row.M-Label.Denot) (before : List (List ℕ))
      → SaidOf start (datagrams_to l.far_to before) (g.M.Mouth.told l.initial.far_mouth)
      → SaidOf start (datagrams_to l.far_to (before ++ said_on Far (take l.cross-index l.crosses)))
      (g.M.Mouth.told l.far_mouth);
}
