-- What each link heard in a run of `serve`.
use Rattle.std.specs.Prelude.{◌≡◌, ℕ, Bool, List, Option, Some}
use Rattle.m17_values.specs.declared.heard.Heard.{Heard}
use Rattle.m17_ports.specs.Ear.{EarTold}
use Rattle.m17_reflect.specs.Links.{At, Link}
use Rattle.m17_reflect.specs.Run.{Devices, Handed}
use Rattle.m17_words.specs.declared.order.ServeOrder.{ServeOrder}
use Rattle.m17_serve.specs.Served.{Around, Serves}

-- Where an ear that comes back tells what it heard, its link heard that: behind a gate, what passed it.
abbrev pub LinksHear : (E M B : Type 0) → Type 0
LinksHear E M B =
    (order : ServeOrder) (run : Around E M B) (devices : Devices E M (Option B)) (handed : Handed)
    (lines_failed : Bool) (serves : Serves order run devices handed lines_failed) (i : ℕ)
    (ear : EarTold E) (heard : List Heard) → At devices.ears i ear → ear.heard ≡ Some heard →
    (link : Link) × At serves.on_board.ran.headline.carried_out.links i link
    × (link.heard ≡ heard)
