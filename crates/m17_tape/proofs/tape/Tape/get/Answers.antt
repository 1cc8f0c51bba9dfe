use Rattle.std.proofs.Common.{◌∙◌, List, Some, ap, sym, subst, slice_get, option_and_then}
use Rattle.m17_tape.specs.declared.notes.Note.{Note}
use Rattle.m17_tape.specs.Cells.{IsPlaceFor}
use Rattle.m17_tape.proofs.Rising.{cell_read, found, missed, none_there, noted_at}
use Rattle.m17_tape.proofs.tape.Tape.get.Goals as goal

pub returns-then-is_of : goal.returns-then-is_of
returns-then-is_of g c =
    let notes = c.self.inside.notes.items in
    let there = found notes c.as_slice-2.result.now c.place_of-place.result c.args.n c.is_of.result c.as_slice-2.ensures.value c.is_of.ensures c.if-is_of.true in
    ap (λ (note : Note g.row.T.Denot). Some note.what) c.index.ensures
    ∙ sym (noted_at 0 c.self.inside.cells notes c.place_of-place.result c.args.n c.index.result.now c.self.invariant.order there.0 (there.1 c.index.result.now))
    ∙ sym (cell_read c.self.inside.cells c.args.n notes c.self.invariant.order)
    ∙ ap (λ cells. option_and_then (λ cell. cell) (slice_get cells c.args.n)) c.self.view_is

pub returns-else-is_of : goal.returns-else-is_of
returns-else-is_of g c =
    let notes = c.self.inside.notes.items in
    let placed = subst (λ (l : List (Note g.row.T.Denot)). IsPlaceFor l c.args.n c.place_of-place.result) c.as_slice.ensures.value c.place_of-place.ensures in
    let other = missed notes c.as_slice-2.result.now c.place_of-place.result c.args.n c.is_of.result c.as_slice-2.ensures.value c.is_of.ensures c.if-is_of.false in
    sym (none_there 0 c.self.inside.cells notes c.place_of-place.result c.args.n c.self.invariant.order placed other)
    ∙ sym (cell_read c.self.inside.cells c.args.n notes c.self.invariant.order)
    ∙ ap (λ cells. option_and_then (λ cell. cell) (slice_get cells c.args.n)) c.self.view_is
