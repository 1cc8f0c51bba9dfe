-- What passes to each link of what its socket heard.
use Rattle.std.proofs.Common.{◌≡◌, ap, subst, ◌∙◌}
use Rattle.std.specs.Prelude.{◌<◌, Bool, List, Option, Some, length, option_map, slice_get}
use Rattle.std.proofs.lemmas.Option.{get_or_from_slice_get, slice_get_within}
use Rattle.m17_values.specs.declared.heard.Heard.{Heard}
use Rattle.m17_ports.specs.Ear.{EarTold}
use Rattle.m17_decorators.specs.Filled.{filled_all}
use Rattle.m17_decorators.specs.Guarded.{guarded}
use Rattle.m17_gate.specs.Gated.{gated}
use Rattle.m17_gate.specs.declared.rule.Rule.{Rule}
use Rattle.m17_serve.specs.Laws.{LinksHear}
use Rattle.m17_words.specs.declared.order.ServeOrder.{ServeOrder}
use Rattle.m17_app.specs.Fitted.{EarBehind, IsBehind, LabelBehind, MouthLabel, behind_told}
use Rattle.m17_app.specs.Laws.{LinksHearWhatPasses, passed}

-- what an ear behind all of it has heard, by its label
heard_behind : {X L : Type 0} (told : X → EarTold L) (order : ServeOrder) (rules : List Rule) (ear : EarBehind X) (heard : List Heard)
    → IsBehind order rules (behind_told told ear).device.label → (told ear.inner.inner.inner).heard ≡ Some heard → (behind_told told ear).heard ≡ Some (passed order rules heard)
heard_behind told order rules ear heard behind is =
    let fills = ear.inner.inner.fills in
    let on = ear.inner.is_on in
    ap (λ (told_so : Option (List Heard)). option_map (gated ear.rules) (option_map (guarded on) (option_map (filled_all fills) told_so))) is
    ∙ ap (λ (by : List Rule). Some (gated by (guarded on (filled_all fills heard)))) behind.rules
    ∙ ap (λ (b : Bool). Some (gated rules (guarded b (filled_all fills heard)))) behind.guard
    ∙ ap (λ (b : Bool). Some (gated rules (guarded order.guard (filled_all b heard)))) behind.fill

module _ {E M B X : Type 0} where
  pub links_hear_passed : LinksHear (LabelBehind E) (MouthLabel M) B → LinksHearWhatPasses E M B X
  links_hear_passed hear told order rules run devices handed lines_failed serves behind i ear heard at is =
      let there = behind_told told ear in
      let inside : i < length devices.ears = slice_get_within devices.ears i there at in
      let stands : IsBehind order rules there.device.label =
      subst (λ (one : EarTold (LabelBehind E)). IsBehind order rules one.device.label) (get_or_from_slice_get devices.ears i there there at) (behind i there inside) in
      hear order run devices handed lines_failed serves i there (passed order rules heard) at (heard_behind told order rules ear heard stands is)
