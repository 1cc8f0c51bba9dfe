use Rattle.std.proofs.Common.{◌≡◌, ◌++◌, [], ap, ◌∙◌}
use Rattle.std.specs.List.{flat_map}
use Rattle.m17_client.specs.TalkDevices.{said_by}
use Rattle.m17_client.specs.Way.{kept_in}
use Rattle.m17_client.specs.Sides.{opposite}
use Rattle.m17_client.specs.BridgeSteps.{said_on}
use Rattle.m17_client.proofs.BridgeOneStep.{latest_of}
use Rattle.m17_client.proofs.Table.{keeps_one}
use Rattle.m17_client.proofs.Taking.{only_one}
use Rattle.m17_client.proofs.WholeStep.{none_kept, one_kept, stepped}
use Rattle.m17_client.proofs.bridge.Bridge.step.Goals as goal

pub returns-in-Some-clause-stands : goal.returns-in-Some-clause-stands
returns-in-Some-clause-stands c = λ ends steps h.
    let side = c.args.side in
    let actions = c.step_client.new.actions.items in
    let did = stepped c.args.self.now c.see.new.self c.step_client.new.self side c.args.input.now actions
    c.see.ensures c.requires.heard c.step_client.ensures.step c.step_client.ensures.rest in
    let few = keeps_one _ c.args.input.now actions _ c.step_client.ensures.step in
    let first = rw c.as_slice-2.ensures.value at c.in-Some.ensures in
    let kept = only_one (flat_map kept_in actions) first.0 c.in-Some.packet first.1 few in
    let own : said_on side c.say_all.new.out.items ≡ flat_map said_by actions =
    rw c.as_slice.ensures.value at (c.say_all.ensures.own ∙ ap (λ l. said_on side l ++ flat_map said_by c.as_slice.result.now) c.requires.out) in
    let other : said_on (opposite side) c.say_all.new.out.items ≡ [] =
    c.say_all.ensures.other ∙ ap (said_on (opposite side)) c.requires.out in
    let taken = c.take.ensures.taken (latest_of steps) (did.latest ∙ h.latest) in
    let is = one_kept ends steps c.args.self.now c.step_client.new.self c.take.new.self side c.args.input.now actions
    c.in-Some.packet c.say_all.new.out.items c.take.new.out.items h did kept own other taken in
    (is.step, is.on_side, is.on_input, is.says, is.stands)

pub returns-in_default-clause-stands : goal.returns-in_default-clause-stands
returns-in_default-clause-stands c = λ ends steps h.
    let side = c.args.side in
    let actions = c.step_client.new.actions.items in
    let did = stepped c.args.self.now c.see.new.self c.step_client.new.self side c.args.input.now actions
    c.see.ensures c.requires.heard c.step_client.ensures.step c.step_client.ensures.rest in
    let kept = rw c.as_slice-2.ensures.value at c.in_default.ensures in
    let own : said_on side c.say_all.new.out.items ≡ flat_map said_by actions =
    rw c.as_slice.ensures.value at (c.say_all.ensures.own ∙ ap (λ l. said_on side l ++ flat_map said_by c.as_slice.result.now) c.requires.out) in
    let other : said_on (opposite side) c.say_all.new.out.items ≡ [] =
    c.say_all.ensures.other ∙ ap (said_on (opposite side)) c.requires.out in
    let is = none_kept ends steps c.args.self.now c.step_client.new.self side c.args.input.now actions
    c.say_all.new.out.items h did kept own other in
    (is.step, is.on_side, is.on_input, is.says, is.stands)
