use Rattle.std.proofs.Common.{◌≡◌, ℕ, ◌≤◌, List, [], length, drop, ap, sym, ◌∙◌, arith, length-drop}
use Rattle.std.proofs.lemmas.Bool.{eq-eqb, eqb-true}
use Rattle.std.proofs.lemmas.List.{drop_all}
use Rattle.m17_control.specs.declared.item.Item.{Item}
use Rattle.m17_module.proofs.basket.Basket.is_empty.Goals as goal

none_left : (next : ℕ) (tray : List Item) → next ≤ length tray → drop next tray ≡ [] → next ≡ length tray
none_left next tray le e = omega (arith, length-drop next tray, ap length e)

pub returns : goal.returns
returns c = (
  λ same. sym c.self.view_is ∙ drop_all c.self.inside.next c.self.inside.tray (omega (arith, eqb-true c.self.inside.next c.len.result same, c.len.ensures)),
  λ none. eq-eqb c.self.inside.next c.len.result (none_left c.self.inside.next c.self.inside.tray c.self.invariant (c.self.view_is ∙ none) ∙ sym c.len.ensures),
)
