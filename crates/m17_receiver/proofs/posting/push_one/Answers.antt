use Rattle.std.proofs.Common.{[], ◌∷◌, map, sym, ap, refl, ◌∙◌}
use Rattle.std.specs.List.{filter_map}
use Rattle.m17_directory.specs.declared.dispatch.Dispatch.{Dispatch}
use Rattle.m17_directory.specs.declared.dispatch.Dispatch.TheVariants.{ToModule}
use Rattle.m17_directory.specs.Routed.{event_for}
use Rattle.m17_lane.specs.Rows.{as_new}
use Rattle.m17_receiver.specs.Posting.{Outlets, letter_at}
use Rattle.m17_receiver.specs.SoFar.{posting}
use Rattle.m17_receiver.proofs.Pushed.{one_to_module, one_to_door}
use Rattle.m17_receiver.proofs.posting.push_one.Goals as goal

pub returns-in-ToModule-clause-pushed : goal.returns-in-ToModule-clause-pushed
returns-in-ToModule-clause-pushed g c =
    let old : Outlets = record { inboxes = c.args.inboxes.now.items; door = c.args.door.now } in
    one_to_module c.args.modules c.in-ToModule.letter c.in-ToModule.event old c.push_event.new.inboxes.items c.push_event.ensures.pushed
    ∙ ap (λ (d : Dispatch). posting c.args.modules (d ∷ []) old) (sym c.in-ToModule.is)

pub returns-in-ToDoor-clause-pushed : goal.returns-in-ToDoor-clause-pushed
returns-in-ToDoor-clause-pushed g c =
    let old : Outlets = record { inboxes = c.args.inboxes.now.items; door = c.args.door.now } in
    one_to_door c.known_laws.ensures c.args.modules c.in-ToDoor.direct old c.push_waiting.new.self c.push_waiting.ensures
    ∙ ap (λ (d : Dispatch). posting c.args.modules (d ∷ []) old) (sym c.in-ToDoor.is)

pub returns-in-ToModule-clause-lanes : goal.returns-in-ToModule-clause-lanes
returns-in-ToModule-clause-lanes g c = record {
  inboxes = ap (map as_new) c.push_event.ensures.pushed
      ∙ c.known_laws.ensures.rows.kept (λ m. filter_map (event_for (letter_at c.args.modules m)) (ToModule c.in-ToModule.letter c.in-ToModule.event ∷ [])) 0 c.args.inboxes.now.items;
  door = refl;
}

pub returns-in-ToDoor-clause-lanes : goal.returns-in-ToDoor-clause-lanes
returns-in-ToDoor-clause-lanes g c = record { inboxes = refl; door = ap as_new c.push_waiting.ensures }
