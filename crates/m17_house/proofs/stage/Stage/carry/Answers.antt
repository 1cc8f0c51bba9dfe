use Rattle.std.proofs.Common.{◌≡◌, ◌<◌, ℕ, List, [], ◌∷◌, ◌++◌, length, true, refl, sym, subst, arith}
use Rattle.std.specs.List.{filter_map}
use Rattle.std.specs.Option.{option_or}
use Rattle.m17_lists.proofs.Lengths.{filter_map_is_no_longer}
use Rattle.m17_control.specs.declared.event.Event.{Event}
use Rattle.m17_control.specs.declared.item.Item.{Item}
use Rattle.m17_control.specs.Modules.{serves}
use Rattle.m17_directory.specs.declared.dispatch.Dispatch.{Dispatch}
use Rattle.m17_directory.specs.Routed.{event_for}
use Rattle.m17_house.specs.Replay.{packet_to}
use Rattle.m17_house.specs.Tallied.{HasSaidMore}
use Rattle.m17_house.specs.Carried.{HasCarried, IsServed, events_of, answer_to}
use Rattle.m17_house.proofs.Carries.{carried_event, carried_reply}
use Rattle.m17_house.proofs.stage.Stage.carry.Goals as goal

pub returns-in-ToModule-clause-carried : goal.returns-in-ToModule-clause-carried
returns-in-ToModule-clause-carried c = λ plan done named served few before.
    let letter : ℕ = c.in-ToModule.module in
    let event : Event = c.in-ToModule.event in
    let here : serves plan.modules letter ≡ true = subst (λ (d : Dispatch). IsServed plan d) c.in-ToModule.is served in
    let fits : length (events_of letter done) < 18446744073709551615 = omega (arith, filter_map_is_no_longer (event_for letter) done) in
    let step = c.step.ensures.by_rule plan (events_of letter done) (before.rooms_stand letter here) fits in
    let items : List Item = c.step.new.out in
    let said : HasSaidMore (λ x. filter_map (packet_to x plan.name) items) c.args.mouth.now c.say_all.new.mouth =
    subst (λ (name : ℕ). HasSaidMore (λ x. filter_map (packet_to x name) items) c.args.mouth.now c.say_all.new.mouth) named c.say_all.ensures.said in
    subst (λ (d : Dispatch). HasCarried plan (done ++ d ∷ []) c.step.new.self c.say_all.new.mouth × (c.step.new.verdict ≡ option_or (answer_to plan done d) c.args.verdict.now)) (sym c.in-ToModule.is)
    (carried_event c.one_event_more_gives.ensures.given plan done letter event c.args.self.now.rooms c.step.new.self c.args.mouth.now c.say_all.new.mouth items c.args.verdict.now c.step.new.verdict here before
    step.0 step.1 (c.step.ensures.others plan) said)

pub returns-in-ToDoor-clause-carried : goal.returns-in-ToDoor-clause-carried
returns-in-ToDoor-clause-carried c = λ plan done named served few before.
    subst (λ (d : Dispatch). HasCarried plan (done ++ d ∷ []) c.args.self.now.rooms c.answer.new.mouth × (c.args.verdict.now ≡ option_or (answer_to plan done d) c.args.verdict.now)) (sym c.in-ToDoor.is)
    (carried_reply plan done c.in-ToDoor.direct c.args.self.now.rooms c.args.mouth.now c.answer.new.mouth before c.answer.ensures, refl)
