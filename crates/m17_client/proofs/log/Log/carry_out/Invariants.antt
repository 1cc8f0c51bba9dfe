use Rattle.std.proofs.Common.{ℕ, List, ◌++◌, take}
use Rattle.std.specs.List.{flat_map}
use Rattle.m17_ports.specs.Mouth.{MouthTold, SaidOf}
use Rattle.m17_ports.specs.Book.{BookTold}
use Rattle.m17_client.specs.TalkDevices.{datagrams_to, kept_by, said_by}
use Rattle.m17_client.specs.TalkSoFar.{IsLogged}
use Rattle.m17_client.proofs.log.Log.carry_out.Given as goal

abbrev pub invariant-loop-action : goal.invariant-loop-action
invariant-loop-action g l = record {
  said : (start : MouthTold g.row.M-Label.Denot) (before : List (List ℕ))
      → SaidOf start (datagrams_to l.to before) (g.M.Mouth.told l.initial.mouth)
      → SaidOf start (datagrams_to l.to (before ++ flat_map said_by (take l.action-index l.actions)))
      (g.M.Mouth.told l.mouth);
  logged : (start : BookTold g.row.B-Label.Denot) (before : List (List ℕ))
      → IsLogged start before l.initial.self (g.B.Book.told l.initial.book)
      → IsLogged start (before ++ flat_map (kept_by l.moment) (take l.action-index l.actions)) l.self
      (g.B.Book.told l.book);
}
