use Rattle.std.proofs.Common.{◌≡◌, ℕ, Some, length, map, vec_len, refl, subst, sym, ap, ◌∙◌, arith}
use Rattle.std.specs.Prelude.{is_some}
use Rattle.std.specs.Option.{option_map}
use Rattle.m17_control.specs.Modules.{letters_of}
use Rattle.m17_plan.specs.declared.plan.Plan.{Plan}
use Rattle.m17_board_run.specs.Board.{IsMade}
use Rattle.m17_board_run.specs.Boarded.{RanOnBoard}
use Rattle.m17_reflect.specs.Run.{module_count}
use Rattle.m17_reflect.specs.Views.{handed_of, kinds_back}
use Rattle.m17_serve.specs.Devices.{house_told, told_of_shelf}
use Rattle.m17_serve.specs.Steps.{kinds_opened}
use Rattle.m17_serve.proofs.Endings.{asked_nothing, caused_refusal, caused_run, comes_refusal, comes_run, has_run, never_ran, no_line_back, no_line_shown}
use Rattle.m17_serve.proofs.Printing.{printed_grows}
use Rattle.m17_serve.proofs.Told.{new_ears, new_shelves, ones_count}
use Rattle.m17_serve.proofs.carrying.carry_out.Goals as goal

pub reflect_on_board-ran-requires-clause-board : goal.reflect_on_board-ran-requires-clause-board
reflect_on_board-ran-requires-clause-board g c κs within =
    let ears = c.args.opened.ears in
    let long = ones_count _ _ _ _ ears.items c.requires.fresh.1.ears in
    let links : vec_len c.args.order.now.binds ≡ vec_len ears = omega (arith, long, ears.ok.0) in
    let modules : length (letters_of c.args.order.now.modules) ≡ module_count c.plan_of-plan.result = ap module_count (sym c.plan_of-plan.ensures) in
    rw c.requires.lines (subst (λ (n : ℕ). IsMade n (module_count c.plan_of-plan.result) (is_some c.args.order.now.board) c.args.board) links
    (subst (λ (n : ℕ). IsMade (vec_len c.args.order.now.binds) n (is_some c.args.order.now.board) c.args.board) modules c.requires.board))

pub reflect_on_board-ran-requires-clause-books : goal.reflect_on_board-ran-requires-clause-books
reflect_on_board-ran-requires-clause-books g c κs within =
    let books = c.args.opened.books in
    let long = ones_count _ _ _ _ books.items c.requires.fresh.1.books in
    (omega (arith, long, books.ok.0)) ∙ ap module_count (sym c.plan_of-plan.ensures)

pub reflect_on_board-ran-requires-clause-new_ears : goal.reflect_on_board-ran-requires-clause-new_ears
reflect_on_board-ran-requires-clause-new_ears g c κs within =
    new_ears g.E.Ear.told _ _ c.args.opened.ears.items c.requires.fresh.1.ears

pub reflect_on_board-ran-requires-clause-new_traces : goal.reflect_on_board-ran-requires-clause-new_traces
reflect_on_board-ran-requires-clause-new_traces g c κs within =
    new_shelves g.B.Book.told _ _ c.args.opened.traces.items c.requires.fresh.1.traces

pub reflect_on_board-ran-requires-clause-new_books : goal.reflect_on_board-ran-requires-clause-new_books
reflect_on_board-ran-requires-clause-new_books g c κs within =
    new_shelves g.B.Book.told _ _ c.args.opened.books.items c.requires.fresh.1.books

pub returns-in-Ok-clause-causes : goal.returns-in-Ok-clause-causes
returns-in-Ok-clause-causes g c = λ ports.
    caused_run c.print_modules-printed.result c.in-Ok.ran.house.lost c.is_either-book_failed.result c.ending_of.result _ _ _ _ _ _ c.ending_of.ensures.ok c.ending_of.ensures.err
    refl c.in-Ok.ensures.cause c.print_modules-printed.ensures.cause

pub returns-in-Ok-clause-ended : goal.returns-in-Ok-clause-ended
returns-in-Ok-clause-ended g c before after opened =
    let order = c.args.order.now in
    let ran = c.in-Ok.ran in
    let back = house_told g.E.Ear.told g.M.Mouth.told g.B.Book.told (kinds_back ran.house) in
    let new = house_told g.E.Ear.told g.M.Mouth.told g.B.Book.told (kinds_opened c.args.opened) in
    comes_run c.print_modules-printed.result order c.ending_of.result _ back (handed_of ran.house) ran.lines_failed c.is_either-book_failed.result _ _
    c.is_either-book_failed.ensures c.ending_of.ensures.ok c.ending_of.ensures.err
    (record {
      new = new;
      empty = option_map g.B.Book.told c.args.opened.lines;
      opened = opened;
      on_board = subst (λ (p : Plan). RanOnBoard p new back (handed_of ran.house) ran.lines_failed (option_map g.B.Book.told c.args.opened.lines) (option_map g.B.Book.told ran.lines)) c.plan_of-plan.ensures c.in-Ok.ensures.ran;
      handed_back = refl;
      none = refl;
    })
    (rw (c.requires.letters, c.as_slice-admitted.ensures.value, c.as_slice-missed.ensures.value) at c.print_modules-printed.ensures.prints)

pub returns-in-Ok-clause-same_devices : goal.returns-in-Ok-clause-same_devices
returns-in-Ok-clause-same_devices g c = c.in-Ok.ensures.ran.ran.same_devices

pub returns-in-Ok-clause-appended : goal.returns-in-Ok-clause-appended
returns-in-Ok-clause-appended g c = printed_grows c.print_modules-printed.result _ _ _ c.print_modules-printed.ensures.prints

pub returns-in-Ok-clause-untouched : goal.returns-in-Ok-clause-untouched
returns-in-Ok-clause-untouched g c never =
    absurd (has_run c.print_modules-printed.result c.in-Ok.ran.house.lost c.is_either-book_failed.result c.ending_of.result c.ending_of.ensures.ok c.ending_of.ensures.err never)

pub returns-in-Ok-clause-unasked : goal.returns-in-Ok-clause-unasked
returns-in-Ok-clause-unasked g c never none =
    absurd (has_run c.print_modules-printed.result c.in-Ok.ran.house.lost c.is_either-book_failed.result c.ending_of.result c.ending_of.ensures.ok c.ending_of.ensures.err (never_ran c.ending_of.result never))

pub returns-in-Ok-clause-watch : goal.returns-in-Ok-clause-watch
returns-in-Ok-clause-watch g c some = absurd (some refl)

pub returns-in-Ok-clause-unnamed : goal.returns-in-Ok-clause-unnamed
returns-in-Ok-clause-unnamed g c none =
    no_line_shown g.B.Book.told c.plan_of-plan.result.modules (length (map (told_of_shelf g.B.Book.told) c.in-Ok.ran.house.books.items)) c.in-Ok.ensures.ran.posters c.in-Ok.ran.lines_failed c.args.opened.lines c.in-Ok.ran.lines (c.requires.lines ∙ ap is_some none) c.in-Ok.ensures.ran.lines_show

pub returns-in-Ok-clause-withheld : goal.returns-in-Ok-clause-withheld
returns-in-Ok-clause-withheld g c withheld = c.in-Ok.ensures.withheld withheld

pub returns-in-Err-clause-unasked : goal.returns-in-Err-clause-unasked
returns-in-Err-clause-unasked g c never none =
    asked_nothing c.in-Err.back.refused.why c.ending_for.result _ _ c.ending_for.ensures.crew (c.in-Err.ensures.unasked none) never

pub returns-in-Err-clause-watch : goal.returns-in-Err-clause-watch
returns-in-Err-clause-watch g c some named none = c.in-Err.ensures.first (c.requires.lines ∙ named) none

pub returns-in-Err-clause-unnamed : goal.returns-in-Err-clause-unnamed
returns-in-Err-clause-unnamed g c none =
    no_line_back g.B.Book.told c.in-Err.back.refused.why c.args.opened.lines c.in-Err.back.lines (c.requires.lines ∙ ap is_some none) c.in-Err.ensures.lines_back

pub returns-in-Err-clause-withheld : goal.returns-in-Err-clause-withheld
returns-in-Err-clause-withheld g c withheld = c.in-Err.ensures.withheld withheld

pub returns-in-Err-clause-causes : goal.returns-in-Err-clause-causes
returns-in-Err-clause-causes g c = λ ports.
    caused_refusal c.in-Err.back.refused.why c.ending_for.result _ _ _ _ _ c.ending_for.ensures.crew c.ending_for.ensures.memory refl c.in-Err.ensures.cause

pub returns-in-Err-clause-ended : goal.returns-in-Err-clause-ended
returns-in-Err-clause-ended g c before after opened =
    let back = c.in-Err.back in
    comes_refusal back.refused.why c.args.order.now c.ending_for.result _ _ c.ending_for.ensures.crew c.ending_for.ensures.memory
    (record {
      devices = house_told g.E.Ear.told g.M.Mouth.told g.B.Book.told (kinds_opened c.args.opened);
      empty = option_map g.B.Book.told c.args.opened.lines;
      opened = opened;
      handed_back = ap (λ k. Some (house_told g.E.Ear.told g.M.Mouth.told g.B.Book.told k, back.refused.why)) c.in-Err.ensures.refused;
      none = refl;
      lines = c.in-Err.ensures.lines_back;
    })

pub returns-in-Err-clause-same : goal.returns-in-Err-clause-same
returns-in-Err-clause-same g c = c.in-Err.ensures.refused
