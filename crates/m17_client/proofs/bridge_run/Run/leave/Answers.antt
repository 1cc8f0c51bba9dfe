use Rattle.std.proofs.Common.{◌++◌, ◌∷◌, [], subst}
use Rattle.std.proofs.lemmas.List.{append_assoc}
use Rattle.m17_client.specs.Sides.{both}
use Rattle.m17_client.specs.CrossSoFar.{IsAt}
use Rattle.m17_client.proofs.CrossTurns.{both_leave}
use Rattle.m17_client.proofs.bridge_run.Run.leave.Goals as goal

pub returns-clause-left : goal.returns-clause-left
returns-clause-left g c = λ origin steps to_is h.
    let one = c.say_step.ensures origin steps to_is h in
    let two = c.say_step-2.ensures origin (steps ++ one.0 ∷ []) to_is one.3 in (
      one.0 ∷ two.0 ∷ [],
      both_leave one.0 two.0 one.1 two.1 one.2 two.2,
      subst (λ l. IsAt origin l c.say_step-2.new.self (both (g.M.Mouth.told c.say_step-2.new.near_mouth)
          (g.M.Mouth.told c.say_step-2.new.far_mouth)))
          (append_assoc steps (one.0 ∷ []) (two.0 ∷ [])) two.3,
    )
