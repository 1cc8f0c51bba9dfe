use Rattle.std.proofs.Common.{◌≡◌, ◌-◌, List, ◌++◌, length, map}
use Rattle.m17_client.specs.declared.state.Input.TheVariants.{Send}
use Rattle.m17_client.specs.Steps.{ClientStep, inputs_of}
use Rattle.m17_client.specs.Talk.{due_records}
use Rattle.m17_client.specs.TalkSoFar.{IsAt, Origin, due_now}
use Rattle.m17_client.proofs.session.Session.send_due.Given as goal

abbrev pub invariant-due : goal.invariant-due
invariant-due g l = (origin : Origin g.row.M-Label.Denot g.row.B-Label.Denot) (steps : List ClientStep)
    → origin.plan.to ≡ l.to → origin.plan.script ≡ l.script
    → IsAt origin steps l.initial.self (g.M.Mouth.told l.initial.mouth) (g.B.Book.told l.initial.book)
    → (sends : List ClientStep)
    × (inputs_of sends ++ map (λ due. Send due.1) (due_now l.self.progress l.script)
    ≡ map (λ due. Send due.1) (due_records origin.plan steps))
    × IsAt origin (steps ++ sends) l.self (g.M.Mouth.told l.mouth) (g.B.Book.told l.book)

abbrev pub decreases-due : goal.decreases-due
decreases-due g l = length l.script - l.self.progress.sent
