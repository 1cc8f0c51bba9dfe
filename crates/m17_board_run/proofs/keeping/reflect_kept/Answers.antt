use Rattle.std.proofs.Common.{◌≡◌, List, [], length, vec_len, All, sym, ap, subst, ◌∙◌, arith}
use Rattle.std.specs.List.{AllZip}
use Rattle.std.proofs.lemmas.List.{length-map}
use Rattle.m17_board.specs.Ends.{PostEnd}
use Rattle.m17_reflect.specs.declared.returned.HouseRefusal.{HouseRefusal}
use Rattle.m17_reflect.specs.Views.{IsRefusedFor}
use Rattle.m17_board_run.specs.Putting.{plain_of, posters_of, IsKept, IsSameEnd}
use Rattle.m17_board_run.proofs.Books.{fresh_over, kept_plain, length_over, none_take, over_plain}
use Rattle.m17_board_run.proofs.Runs.{came_of, refused_off, run_off, shelves_by}
use Rattle.m17_board_run.proofs.keeping.reflect_kept.Goals as goal

pub keep_books-kept_books-requires-clause-each : goal.keep_books-kept_books-requires-clause-each
keep_books-kept_books-requires-clause-each g c = λ posts. c.requires.posters (c.are_some-posts.ensures.some posts)

pub keep_books-kept_books-requires-clause-no_posters : goal.keep_books-kept_books-requires-clause-no_posters
keep_books-kept_books-requires-clause-no_posters g c = λ none. c.are_some-posts.ensures.none none

pub reflect-requires-clause-new_traces : goal.reflect-requires-clause-new_traces
reflect-requires-clause-new_traces g c κs within =
    fresh_over g.B.Book.told c.keep_plain-kept_traces.result.items c.args.traces.items (over_plain c.keep_plain-kept_traces.result.items c.args.traces.items c.keep_plain-kept_traces.ensures)
    (none_take c.keep_plain-kept_traces.result.items (kept_plain c.keep_plain-kept_traces.result.items c.args.traces.items c.keep_plain-kept_traces.ensures)) c.requires.new_traces

pub reflect-requires-clause-new_books : goal.reflect-requires-clause-new_books
reflect-requires-clause-new_books g c κs within =
    fresh_over g.B.Book.told c.keep_books-kept_books.result.items c.args.books.items c.keep_books-kept_books.ensures.shelves
    (subst (All (λ (p : PostEnd). p.taken ≡ [])) (sym c.keep_books-kept_books.ensures.posters) c.requires.untaken) c.requires.new_books

pub house_back-requires-clause-kept : goal.house_back-requires-clause-kept
house_back-requires-clause-kept g c =
    let shelves = shelves_by c.args.ears.items c.args.mouths.items c.args.traces.items c.args.books.items in
    let came = came_of g.E.Ear.told g.M.Mouth.told g.B.Book.told c.devices_stay.ensures _ c.args.plan.now shelves c.args.posters.items c.keep_plain-kept_traces.result.items c.keep_books-kept_books.result.items c.in-Ok.house
    (record {
      over_traces = over_plain c.keep_plain-kept_traces.result.items c.args.traces.items c.keep_plain-kept_traces.ensures;
      plain_traces = kept_plain c.keep_plain-kept_traces.result.items c.args.traces.items c.keep_plain-kept_traces.ensures;
      over = c.keep_books-kept_books.ensures.shelves;
      posters_are = c.keep_books-kept_books.ensures.posters;
      kept = c.keep_books-kept_books.ensures.kept;
    })
    (omega (arith, c.requires.mouths, c.args.mouths.ok.0, c.args.ears.ok.0)) (omega (arith, c.requires.traces, c.args.traces.ok.0, c.args.ears.ok.0)) (omega (arith, c.requires.books, c.args.books.ok.0))
    c.in-Ok.ensures.headline in
    came.kept

pub house_back-requires-clause-room : goal.house_back-requires-clause-room
house_back-requires-clause-room g c =
    let shelves = shelves_by c.args.ears.items c.args.mouths.items c.args.traces.items c.args.books.items in
    let came = came_of g.E.Ear.told g.M.Mouth.told g.B.Book.told c.devices_stay.ensures _ c.args.plan.now shelves c.args.posters.items c.keep_plain-kept_traces.result.items c.keep_books-kept_books.result.items c.in-Ok.house
    (record {
      over_traces = over_plain c.keep_plain-kept_traces.result.items c.args.traces.items c.keep_plain-kept_traces.ensures;
      plain_traces = kept_plain c.keep_plain-kept_traces.result.items c.args.traces.items c.keep_plain-kept_traces.ensures;
      over = c.keep_books-kept_books.ensures.shelves;
      posters_are = c.keep_books-kept_books.ensures.posters;
      kept = c.keep_books-kept_books.ensures.kept;
    })
    (omega (arith, c.requires.mouths, c.args.mouths.ok.0, c.args.ears.ok.0)) (omega (arith, c.requires.traces, c.args.traces.ok.0, c.args.ears.ok.0)) (omega (arith, c.requires.books, c.args.books.ok.0))
    c.in-Ok.ensures.headline in
    record {
      traces = (c.requires.rooms.traces.0, omega (arith, came.trace_count, c.requires.traces, c.args.traces.ok.0, c.in-Ok.house.traces.ok.0, c.requires.rooms.traces.1));
      books = (c.requires.rooms.books.0, omega (arith, came.book_count, c.requires.books, c.args.books.ok.0, c.in-Ok.house.books.ok.0, c.requires.rooms.books.1));
      posters = (c.requires.rooms.posters.0, omega (arith, came.book_count, c.requires.books, c.args.books.ok.0, c.in-Ok.house.books.ok.0, c.requires.rooms.posters.1));
    }

pub returns-in-Ok-clause-ran : goal.returns-in-Ok-clause-ran
returns-in-Ok-clause-ran g c =
    let shelves = shelves_by c.args.ears.items c.args.mouths.items c.args.traces.items c.args.books.items in
    let came = came_of g.E.Ear.told g.M.Mouth.told g.B.Book.told c.devices_stay.ensures _ c.args.plan.now shelves c.args.posters.items c.keep_plain-kept_traces.result.items c.keep_books-kept_books.result.items c.in-Ok.house
    (record {
      over_traces = over_plain c.keep_plain-kept_traces.result.items c.args.traces.items c.keep_plain-kept_traces.ensures;
      plain_traces = kept_plain c.keep_plain-kept_traces.result.items c.args.traces.items c.keep_plain-kept_traces.ensures;
      over = c.keep_books-kept_books.ensures.shelves;
      posters_are = c.keep_books-kept_books.ensures.posters;
      kept = c.keep_books-kept_books.ensures.kept;
    })
    (omega (arith, c.requires.mouths, c.args.mouths.ok.0, c.args.ears.ok.0)) (omega (arith, c.requires.traces, c.args.traces.ok.0, c.args.ears.ok.0)) (omega (arith, c.requires.books, c.args.books.ok.0))
    c.in-Ok.ensures.headline in
    run_off g.E.Ear.told g.M.Mouth.told g.B.Book.told c.one_list_stands_whole.ensures _ c.args.plan.now shelves c.args.posters.items c.house_back.result.1.items c.keep_plain-kept_traces.result.items c.keep_books-kept_books.result.items
    c.in-Ok.house c.house_back.result.0
    (record {
      over_traces = over_plain c.keep_plain-kept_traces.result.items c.args.traces.items c.keep_plain-kept_traces.ensures;
      plain_traces = kept_plain c.keep_plain-kept_traces.result.items c.args.traces.items c.keep_plain-kept_traces.ensures;
      over = c.keep_books-kept_books.ensures.shelves;
      posters_are = c.keep_books-kept_books.ensures.posters;
      kept = c.keep_books-kept_books.ensures.kept;
    }) came c.house_back.ensures.off c.house_back.ensures.posters c.house_back.ensures.posted c.requires.untaken c.requires.new_books c.in-Ok.ensures.headline

pub returns-in-Ok-clause-ends : goal.returns-in-Ok-clause-ends
returns-in-Ok-clause-ends g c =
    let shelves = shelves_by c.args.ears.items c.args.mouths.items c.args.traces.items c.args.books.items in
    let came = came_of g.E.Ear.told g.M.Mouth.told g.B.Book.told c.devices_stay.ensures _ c.args.plan.now shelves c.args.posters.items c.keep_plain-kept_traces.result.items c.keep_books-kept_books.result.items c.in-Ok.house
    (record {
      over_traces = over_plain c.keep_plain-kept_traces.result.items c.args.traces.items c.keep_plain-kept_traces.ensures;
      plain_traces = kept_plain c.keep_plain-kept_traces.result.items c.args.traces.items c.keep_plain-kept_traces.ensures;
      over = c.keep_books-kept_books.ensures.shelves;
      posters_are = c.keep_books-kept_books.ensures.posters;
      kept = c.keep_books-kept_books.ensures.kept;
    })
    (omega (arith, c.requires.mouths, c.args.mouths.ok.0, c.args.ears.ok.0)) (omega (arith, c.requires.traces, c.args.traces.ok.0, c.args.ears.ok.0)) (omega (arith, c.requires.books, c.args.books.ok.0))
    c.in-Ok.ensures.headline in
    subst (λ (l : List PostEnd). AllZip IsSameEnd c.args.posters.items l) (sym c.house_back.ensures.posters) came.ends

pub returns-in-Ok-clause-count : goal.returns-in-Ok-clause-count
returns-in-Ok-clause-count g c =
    let shelves = shelves_by c.args.ears.items c.args.mouths.items c.args.traces.items c.args.books.items in
    let came = came_of g.E.Ear.told g.M.Mouth.told g.B.Book.told c.devices_stay.ensures _ c.args.plan.now shelves c.args.posters.items c.keep_plain-kept_traces.result.items c.keep_books-kept_books.result.items c.in-Ok.house
    (record {
      over_traces = over_plain c.keep_plain-kept_traces.result.items c.args.traces.items c.keep_plain-kept_traces.ensures;
      plain_traces = kept_plain c.keep_plain-kept_traces.result.items c.args.traces.items c.keep_plain-kept_traces.ensures;
      over = c.keep_books-kept_books.ensures.shelves;
      posters_are = c.keep_books-kept_books.ensures.posters;
      kept = c.keep_books-kept_books.ensures.kept;
    })
    (omega (arith, c.requires.mouths, c.args.mouths.ok.0, c.args.ears.ok.0)) (omega (arith, c.requires.traces, c.args.traces.ok.0, c.args.ears.ok.0)) (omega (arith, c.requires.books, c.args.books.ok.0))
    c.in-Ok.ensures.headline in
    let back = ap length c.house_back.ensures.off.books ∙ length-map c.in-Ok.house.books.items plain_of in
    omega (arith, back, came.book_count, c.args.books.ok.0, c.house_back.result.0.books.ok.0)

pub refused_back-requires-clause-kept : goal.refused_back-requires-clause-kept
refused_back-requires-clause-kept g c = subst (All (IsKept _)) (sym c.in-Err.ensures.refused.3) c.keep_books-kept_books.ensures.kept

pub refused_back-requires-clause-room : goal.refused_back-requires-clause-room
refused_back-requires-clause-room g c =
    let same = c.in-Err.ensures.refused in
    let traces = ap length same.2 ∙ length_over c.keep_plain-kept_traces.result.items c.args.traces.items (over_plain c.keep_plain-kept_traces.result.items c.args.traces.items c.keep_plain-kept_traces.ensures) in
    let books = ap length same.3 ∙ length_over c.keep_books-kept_books.result.items c.args.books.items c.keep_books-kept_books.ensures.shelves in
    record {
      traces = (c.requires.rooms.traces.0, omega (arith, traces, c.requires.traces, c.args.traces.ok.0, c.in-Err.refused.traces.ok.0, c.requires.rooms.traces.1));
      books = (c.requires.rooms.books.0, omega (arith, books, c.requires.books, c.args.books.ok.0, c.in-Err.refused.books.ok.0, c.requires.rooms.books.1));
      posters = (c.requires.rooms.posters.0, omega (arith, books, c.requires.books, c.args.books.ok.0, c.in-Err.refused.books.ok.0, c.requires.rooms.posters.1));
    }

pub returns-in-Err-clause-refused : goal.returns-in-Err-clause-refused
returns-in-Err-clause-refused g c =
    refused_off (shelves_by c.args.ears.items c.args.mouths.items c.args.traces.items c.args.books.items) c.keep_plain-kept_traces.result.items c.keep_books-kept_books.result.items
    c.in-Err.refused c.refused_back.result.0 (over_plain c.keep_plain-kept_traces.result.items c.args.traces.items c.keep_plain-kept_traces.ensures) c.keep_books-kept_books.ensures.shelves
    c.in-Err.ensures.refused c.refused_back.ensures.off

pub returns-in-Err-clause-same_posters : goal.returns-in-Err-clause-same_posters
returns-in-Err-clause-same_posters g c = c.refused_back.ensures.posters ∙ ap posters_of c.in-Err.ensures.refused.3 ∙ c.keep_books-kept_books.ensures.posters

pub returns-in-Err-clause-cause : goal.returns-in-Err-clause-cause
returns-in-Err-clause-cause g c =
    subst (λ (w : HouseRefusal). IsRefusedFor w (g.C.Crew.refusals c.args.crew.now) (g.C.Crew.refusals c.reflect.new.crew)) (sym c.refused_back.ensures.off.why) c.in-Err.ensures.cause

pub returns-in-Err-clause-unasked : goal.returns-in-Err-clause-unasked
returns-in-Err-clause-unasked g c none = c.in-Err.ensures.unasked (sym c.refused_back.ensures.off.why ∙ none)
