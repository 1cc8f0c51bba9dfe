-- What follows for a run of `serve` from what stands before its ears.
use Rattle.std.specs.Prelude.{◌≡◌, ℕ, Bool, List, Some}
use Rattle.m17_values.specs.declared.heard.Heard.{Heard}
use Rattle.m17_ports.specs.Ear.{EarTold}
use Rattle.m17_decorators.specs.Filled.{filled_all}
use Rattle.m17_decorators.specs.Guarded.{guarded}
use Rattle.m17_gate.specs.Gated.{gated}
use Rattle.m17_gate.specs.declared.rule.Rule.{Rule}
use Rattle.m17_reflect.specs.Links.{At, Link}
use Rattle.m17_reflect.specs.Run.{Handed}
use Rattle.m17_serve.specs.Served.{Serves}
use Rattle.m17_words.specs.declared.order.ServeOrder.{ServeOrder}
use Rattle.m17_app.specs.Fitted.{AreBehind, DevicesBack, EarBehind, ServeRun, behind_told}

-- What passes to a link of what its socket heard: CRCs are filled in where the words ask for it; a guard, unless they leave it
-- out; and a gate of these rules.
abbrev pub passed : ServeOrder → List Rule → List Heard → List Heard
passed order rules heard = gated rules (guarded order.guard (filled_all order.fill heard))

-- Where the ear of a link's socket tells what it heard, the link heard what passed of that.
abbrev pub LinksHearWhatPasses : (E M B X : Type 0) → Type 0
LinksHearWhatPasses E M B X =
    (told : X → EarTold E) (order : ServeOrder) (rules : List Rule) (run : ServeRun E M B)
    (devices : DevicesBack E M B) (handed : Handed) (lines_failed : Bool)
    (serves : Serves order run devices handed lines_failed) → AreBehind order rules devices → (i : ℕ)
    (ear : EarBehind X) (heard : List Heard) → At devices.ears i (behind_told told ear)
    → (told ear.inner.inner.inner).heard ≡ Some heard →
    (link : Link) × At serves.on_board.ran.headline.carried_out.links i link
    × (link.heard ≡ passed order rules heard)
