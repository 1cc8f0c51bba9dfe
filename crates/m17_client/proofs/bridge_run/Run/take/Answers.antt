use Rattle.std.proofs.Common.{◌∷◌, [], sym, ap, ◌∙◌, subst, refl}
use Rattle.std.proofs.lemmas.List.{append-nil}
use Rattle.m17_client.specs.Sides.{both, of}
use Rattle.m17_client.specs.CrossRun.{CrossTurn, steps_of}
use Rattle.m17_client.specs.CrossSoFar.{IsAt}
use Rattle.m17_client.proofs.CrossTurns.{no_turn, passed_on, same_bridge, so_far_more, turn_on, turn_taken}
use Rattle.m17_client.proofs.bridge_run.Run.take.Goals as goal

pub returns-in-Some : goal.returns-in-Some
returns-in-Some g c = λ origin turns to_is h.
    let run = c.args.self.now in
    let mid = c.count_fault.new.self in
    let before = both (g.M.Mouth.told c.args.near_mouth.now) (g.M.Mouth.told c.args.far_mouth.now) in
    let after = both (g.M.Mouth.told c.say_step.new.near_mouth) (g.M.Mouth.told c.say_step.new.far_mouth) in
    let taken = c.say_step.ensures origin (steps_of turns) to_is
    (same_bridge origin (steps_of turns) run mid c.is_end-self.result c.is_fault.result before
    c.count_fault.ensures h.at) in
    let turn : CrossTurn = record { side = run.side; heard = c.args.entry; steps = taken.0 ∷ [] } in (
      taken.0 ∷ [],
      so_far_more origin turns turn run (passed_on mid c.say_step.new.self c.opposite-self.result) before after h taken.3
          (turn_on origin.plan run.side c.peer_of.result.now c.args.entry c.in-Some.input taken.0
          (ap (of run.side) to_is ∙ sym c.peer_of.ensures) c.in-Some.ensures.input.0 taken.1 taken.2)
          (turn_taken run mid c.is_end-self.result c.is_fault.result turn c.say_step.new.self c.opposite-self.result
          c.count_fault.ensures c.is_fault.ensures c.is_end-self.ensures refl c.opposite-self.ensures),
    )

pub returns-in_default : goal.returns-in_default
returns-in_default g c = λ origin turns to_is h.
    let run = c.args.self.now in
    let mid = c.count_fault.new.self in
    let before = both (g.M.Mouth.told c.args.near_mouth.now) (g.M.Mouth.told c.args.far_mouth.now) in
    let at = same_bridge origin (steps_of turns) run mid c.is_end-self.result c.is_fault.result before
    c.count_fault.ensures h.at in
    let turn : CrossTurn = record { side = run.side; heard = c.args.entry; steps = [] } in (
      [],
      so_far_more origin turns turn run (passed_on mid mid.bridge c.opposite-self.result) before before h
          (subst (λ l. IsAt origin l mid.bridge before) (sym (append-nil (steps_of turns))) at)
          (no_turn origin.plan run.side c.args.entry c.in_default.ensures.input)
          (turn_taken run mid c.is_end-self.result c.is_fault.result turn mid.bridge c.opposite-self.result
          c.count_fault.ensures c.is_fault.ensures c.is_end-self.ensures refl c.opposite-self.ensures),
    )
