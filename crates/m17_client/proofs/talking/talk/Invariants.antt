use Rattle.std.proofs.Common.{◌≢◌, List}
use Rattle.std.specs.List.{All}
use Rattle.m17_values.specs.declared.heard.Heard.TheVariants.{End}
use Rattle.m17_ports.specs.Ear.{HasHeard}
use Rattle.m17_client.specs.Talk.{TalkPlan, Turn, entries_of}
use Rattle.m17_client.specs.TalkSoFar.{GoesOn, IsSoFar}
use Rattle.m17_client.proofs.Turns.{origin_of}
use Rattle.m17_client.proofs.talking.talk.Given as goal

abbrev pub invariant-loop : goal.invariant-loop
invariant-loop g l =
    let plan : TalkPlan = record { to = l.to; client = l.fn.client; script = l.script; stay = l.stay } in
    (turns : List Turn)
    × IsSoFar (origin_of plan (g.M.Mouth.told l.initial.mouth) (g.B.Book.told l.initial.book)) turns l.run
    (g.M.Mouth.told l.mouth) (g.B.Book.told l.book)
    × GoesOn plan turns × All (λ entry. entry ≢ End) (entries_of turns)
    × HasHeard (g.E.Ear.told l.initial.ear) (entries_of turns) (g.E.Ear.told l.ear)
