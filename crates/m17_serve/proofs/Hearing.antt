-- What each link heard.
use Rattle.std.proofs.Common.{◌≡◌, ◌<◌, length, get_or, Some, arith}
use Rattle.std.specs.Prelude.{slice_get}
use Rattle.std.proofs.lemmas.Option.{slice_get-get_or, slice_get_within}
use Rattle.m17_board_run.specs.declared.kept.KeptLabel.{KeptLabel}
use Rattle.m17_reflect.specs.Laws.{HeadlineTells}
use Rattle.m17_serve.specs.Laws.{LinksHear}
use Rattle.m17_serve.specs.Served.{run_told}

pub links_hear : {E M B : Type 0} → HeadlineTells E M (KeptLabel B) → LinksHear E M B
links_hear tells order run devices handed lines_failed serves i ear heard at is =
    let new = serves.new in
    let headline = serves.on_board.ran.headline in
    let inside : i < length devices.ears = slice_get_within devices.ears i ear at in
    let first = get_or new.ears i ear in
    let there : slice_get new.ears i ≡ Some first = slice_get-get_or new.ears i ear (omega (arith, inside, headline.ears.same_count)) in
    tells (run_told order run devices handed lines_failed serves) headline i first ear heard there at (serves.opened.are_new.ears.each i first there).heard is
