use Rattle.std.proofs.Common.{◌≢◌, ◌++◌, [], ◌∷◌, refl, inl, inr}
use Rattle.std.proofs.lemmas.Bool.Decides.{leb_tells}
use Rattle.std.proofs.lemmas.List.Elements.{All-nil}
use Rattle.m17_values.specs.declared.heard.Heard.TheVariants.{End}
use Rattle.m17_client.specs.declared.side.Side.TheVariants.{Near, Far}
use Rattle.m17_client.specs.Sides.{both, of}
use Rattle.m17_client.specs.CrossRun.{CrossPlan, CrossTurn, IsOver, steps_of}
use Rattle.m17_client.proofs.CrossEnded.{begins, end_is, goes_on_more, has_risen, hears_one, just_made, no_end_more, not_over, origin_of, over_is, whole_run}
use Rattle.m17_client.proofs.Frames.{keeps_promise}
use Rattle.m17_client.proofs.crossing.cross.Goals as goal

pub loop-init : goal.loop-init
loop-init g c =
    let plan : CrossPlan =
    record { ends = c.args.bridge.clients; to = both c.args.near_to.now c.args.far_to.now } in
    let mouths = both (g.M.Mouth.told c.args.near_mouth.now) (g.M.Mouth.told c.args.far_mouth.now) in
    let origin = origin_of plan mouths in
    let ears = both (g.E.Ear.told c.args.near_ear.now) (g.E.Ear.told c.args.far_ear.now) in (
      [],
      just_made plan c.new-run.result c.args.bridge mouths
          (λ side. c.mouths_say_in_turn.ensures.nothing (of side mouths)) c.requires.unstepped
          c.new-run.ensures.bridge c.new-run.ensures.side c.new-run.ensures.near c.new-run.ensures.far
          c.new-run.ensures.goes_on,
      begins plan c.requires.joined,
      λ side. All-nil (λ entry. entry ≢ End),
      λ side. c.ears_hear_in_turn.ensures.nothing (of side ears),
    )

pub take-requires-clause-near : goal.take-requires-clause-near
take-requires-clause-near g c =
    let plan : CrossPlan =
    record { ends = c.args.bridge.clients; to = both c.args.near_to.now c.args.far_to.now } in
    let mouths = both (g.M.Mouth.told c.args.near_mouth.now) (g.M.Mouth.told c.args.far_mouth.now) in
    let origin = origin_of plan mouths in
    let old = c.loop.invariant in
    elim (leb_tells 16 c.loop.run.near_faults) [
      | inl many ↦ absurd (not_over plan old.0 old.2 ((over_is origin old.0 c.loop.run
          (both (g.M.Mouth.told c.loop.near_mouth) (g.M.Mouth.told c.loop.far_mouth)) old.1).0
          (inr (inl (Near, many.1)))))
      | inr few ↦ few.1
    ]

pub take-requires-clause-far : goal.take-requires-clause-far
take-requires-clause-far g c =
    let plan : CrossPlan =
    record { ends = c.args.bridge.clients; to = both c.args.near_to.now c.args.far_to.now } in
    let mouths = both (g.M.Mouth.told c.args.near_mouth.now) (g.M.Mouth.told c.args.far_mouth.now) in
    let origin = origin_of plan mouths in
    let old = c.loop.invariant in
    elim (leb_tells 16 c.loop.run.far_faults) [
      | inl many ↦ absurd (not_over plan old.0 old.2 ((over_is origin old.0 c.loop.run
          (both (g.M.Mouth.told c.loop.near_mouth) (g.M.Mouth.told c.loop.far_mouth)) old.1).0
          (inr (inl (Far, many.1)))))
      | inr few ↦ few.1
    ]

pub returns-then-is_over : goal.returns-then-is_over
returns-then-is_over g c =
    let plan : CrossPlan =
    record { ends = c.args.bridge.clients; to = both c.args.near_to.now c.args.far_to.now } in
    let mouths = both (g.M.Mouth.told c.args.near_mouth.now) (g.M.Mouth.told c.args.far_mouth.now) in
    let origin = origin_of plan mouths in
    let ears = both (g.E.Ear.told c.args.near_ear.now) (g.E.Ear.told c.args.far_ear.now) in
    let old_ears = both (g.E.Ear.told c.loop.near_ear) (g.E.Ear.told c.loop.far_ear) in
    let new_ears = both (g.E.Ear.told c.hear-entry.new.near) (g.E.Ear.told c.hear-entry.new.far) in
    let after = both (g.M.Mouth.told c.take.new.near_mouth) (g.M.Mouth.told c.take.new.far_mouth) in
    let old = c.loop.invariant in
    let next = c.take.ensures origin old.0 refl old.1 in
    let turn : CrossTurn =
    record { side = c.loop.run.side; heard = c.hear-entry.result; steps = next.0 } in
    let is_over = over_is origin (old.0 ++ turn ∷ []) c.take.new.self after next.1 in
    let heard = hears_one c.ears_hear_in_turn.ensures ears old_ears new_ears old.0 turn old.3 old.4
    c.hear-entry.ensures.heard c.hear-entry.ensures.other in
    let later = both (g.M.Mouth.told c.leave.new.near_mouth) (g.M.Mouth.told c.leave.new.far_mouth) in
    let over = is_over.0 (c.is_over.ensures.0 c.if-is_over.true) in
    let turns = old.0 ++ turn ∷ [] in
    let left = c.leave.ensures.left origin (steps_of turns) refl next.1.at in
    record {
      turns = turns;
      leaves = left.0;
      is_run = whole_run origin old.0 turn c.take.new.self after later left.0 c.leave.new.self.bridge
          old.2 next.1 over left.1 left.2;
      is_end = end_is origin turns c.take.new.self after later (steps_of turns ++ left.0)
          c.leave.new.self.bridge c.end.result next.1 left.2 c.end.ensures.near c.end.ensures.far
          (rw (c.leave.ensures.near, c.leave.ensures.far) at c.end.ensures.lost);
      promise = keeps_promise plan.ends (steps_of turns ++ left.0) c.requires.joined left.2.stands.run;
      heard = heard;
      said = left.2.said;
      lost = λ side. has_risen ears new_ears turns side (heard side);
    }

pub loop-preserved : goal.loop-preserved
loop-preserved g c =
    let plan : CrossPlan =
    record { ends = c.args.bridge.clients; to = both c.args.near_to.now c.args.far_to.now } in
    let mouths = both (g.M.Mouth.told c.args.near_mouth.now) (g.M.Mouth.told c.args.far_mouth.now) in
    let origin = origin_of plan mouths in
    let ears = both (g.E.Ear.told c.args.near_ear.now) (g.E.Ear.told c.args.far_ear.now) in
    let old_ears = both (g.E.Ear.told c.loop.near_ear) (g.E.Ear.told c.loop.far_ear) in
    let new_ears = both (g.E.Ear.told c.hear-entry.new.near) (g.E.Ear.told c.hear-entry.new.far) in
    let after = both (g.M.Mouth.told c.take.new.near_mouth) (g.M.Mouth.told c.take.new.far_mouth) in
    let old = c.loop.invariant in
    let next = c.take.ensures origin old.0 refl old.1 in
    let turn : CrossTurn =
    record { side = c.loop.run.side; heard = c.hear-entry.result; steps = next.0 } in
    let is_over = over_is origin (old.0 ++ turn ∷ []) c.take.new.self after next.1 in
    let heard = hears_one c.ears_hear_in_turn.ensures ears old_ears new_ears old.0 turn old.3 old.4
    c.hear-entry.ensures.heard c.hear-entry.ensures.other in
    let goes_on : IsOver plan (old.0 ++ turn ∷ []) → ⊥ = λ over.
    let yes_over = c.is_over.ensures.1 (is_over.1 over) in let no_over = c.if-is_over.false in absurd (cc) in (
      old.0 ++ turn ∷ [],
      next.1,
      goes_on_more plan old.0 turn old.2 goes_on,
      no_end_more plan old.0 turn old.3 goes_on,
      heard,
    )
