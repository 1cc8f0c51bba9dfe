-- A run that asks for nothing and hands back no devices.
use Rattle.std.proofs.Common.{◌≡◌, ℕ, None, refl, ap}
use Rattle.std.specs.Option.{option_map}
use Rattle.m17_ports.specs.Book.{BookTold}
use Rattle.m17_ports.specs.Ear.{EarTold}
use Rattle.m17_ports.specs.Mouth.{MouthTold}
use Rattle.m17_ports.specs.Ports.{PortsTold}
use Rattle.m17_app.specs.declared.done.Done.{Done}
use Rattle.m17_app.specs.Doing.{doing, DoesNothing}

pub does_nothing : {E M B R X Y Z : Type 0} (ear : E → EarTold X) (mouth : M → MouthTold Y) (book : B → BookTold Z) (ports : PortsTold) (crew : ℕ) (done : Done E M B R X)
    → done.talk ≡ None → done.house ≡ None → done.refused ≡ None → done.bridge ≡ None → done.board ≡ None → DoesNothing (doing ear mouth book ports ports crew crew done)
does_nothing ear mouth book ports crew done talk house refused bridge board = record {
  ports = refl;
  talk = ap (option_map _) talk;
  bridge = ap (option_map _) bridge;
  serve = record { crew = refl; house = ap (option_map _) house; refused = ap (option_map _) refused; board = ap (option_map _) board };
}
