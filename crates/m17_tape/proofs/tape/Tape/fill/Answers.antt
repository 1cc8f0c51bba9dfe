use Rattle.std.proofs.Common.{◌≡◌, ◌∙◌, List, ap, sym, insert, set, slice_set, Some, arith, length, subst}
use Rattle.std.proofs.lemmas.List.Edits.{length-insert}
use Rattle.m17_tape.specs.declared.notes.Note.{Note}
use Rattle.m17_tape.specs.Cells.{AreRising, IsPlaceFor, noted}
use Rattle.m17_tape.proofs.Rising.{few, filled, found, missed, noted_insert, noted_set, nothing_behind, rising_insert, rising_set}
use Rattle.m17_tape.proofs.tape.Tape.fill.Goals as goal

-- nothing is put behind the last cell
pub returns-then-index-from : goal.returns-then-index-from
returns-then-index-from g c =
    sym c.self.view_is
    ∙ nothing_behind c.self.inside.cells c.args.index c.args.what c.self.inside.notes.items (omega (arith, c.if-index-from.true, c.from.ensures))
    ∙ ap (λ cells. slice_set cells c.args.index (Some c.args.what)) c.self.view_is

-- the note that is there is of the cell
pub index_mut-requires : goal.index_mut-requires
index_mut-requires g c =
    let there = found c.self.inside.notes.items c.as_slice-2.result.now c.place_of-place.result c.args.index c.is_of.result c.as_slice-2.ensures.value c.is_of.ensures c.if-is_of.true in
    omega (arith, there.0, c.as_slice.ensures.len, ap length c.as_slice.ensures.value)

pub invariant_of-self : goal.invariant_of-self
invariant_of-self g c =
    let notes = c.self.inside.notes.items in
    let new : Note g.row.T.Denot = record { index = c.args.index; what = c.args.what } in
    let there = found notes c.as_slice-2.result.now c.place_of-place.result c.args.index c.is_of.result c.as_slice-2.ensures.value c.is_of.ensures c.if-is_of.true in
    record {
      room = c.self.invariant.room;
      order = rising_set 0 c.self.inside.cells notes c.place_of-place.result new c.self.invariant.order there.0 (there.1 new);
    }

pub returns-then-is_of : goal.returns-then-is_of
returns-then-is_of g c =
    let notes = c.self.inside.notes.items in
    let new : Note g.row.T.Denot = record { index = c.args.index; what = c.args.what } in
    let there = found notes c.as_slice-2.result.now c.place_of-place.result c.args.index c.is_of.result c.as_slice-2.ensures.value c.is_of.ensures c.if-is_of.true in
    filled c.self.inside.cells c.args.index c.args.what notes (set notes c.place_of-place.result new) (omega (arith, c.if-index-from.false, c.from.ensures))
    (λ k. noted_set 0 c.self.inside.cells notes c.place_of-place.result k new c.self.invariant.order there.0 (there.1 new))
    ∙ ap (λ cells. slice_set cells c.args.index (Some c.args.what)) c.self.view_is

-- no note is of the cell, so there are fewer notes than cells
pub unwrap-requires : goal.unwrap-requires
unwrap-requires g c =
    let notes = c.self.inside.notes.items in
    let place = c.place_of-place.result in
    let new : Note g.row.T.Denot = record { index = c.args.index; what = c.args.what } in
    let placed = subst (λ (l : List (Note g.row.T.Denot)). IsPlaceFor l c.args.index place) c.as_slice.ensures.value c.place_of-place.ensures in
    let other = missed notes c.as_slice-2.result.now place c.args.index c.is_of.result c.as_slice-2.ensures.value c.is_of.ensures c.if-is_of.false in
    let more = rising_insert 0 c.self.inside.cells notes place new c.self.invariant.order placed other (omega arith) (omega (arith, c.if-index-from.false, c.from.ensures)) in
    c.insert.ensures.succeeds
    (omega (arith, few 0 c.self.inside.cells (insert notes place new) more (omega arith), length-insert notes place new placed.within, c.self.invariant.room, c.as_slice.ensures.len, ap length c.as_slice.ensures.value))

pub invariant_of-self-else-is_of : goal.invariant_of-self-else-is_of
invariant_of-self-else-is_of g c =
    let notes = c.self.inside.notes.items in
    let place = c.place_of-place.result in
    let new : Note g.row.T.Denot = record { index = c.args.index; what = c.args.what } in
    let placed = subst (λ (l : List (Note g.row.T.Denot)). IsPlaceFor l c.args.index place) c.as_slice.ensures.value c.place_of-place.ensures in
    let other = missed notes c.as_slice-2.result.now place c.args.index c.is_of.result c.as_slice-2.ensures.value c.is_of.ensures c.if-is_of.false in
    let inserted : c.insert.new.self.items ≡ insert notes place new = rw c.unwrap.ensures at c.insert.ensures.items in
    record {
      room = omega (arith, c.self.invariant.room, c.insert.ensures.capacity);
      order = subst (λ (l : List (Note g.row.T.Denot)). AreRising 0 c.self.inside.cells l) (sym inserted)
          (rising_insert 0 c.self.inside.cells notes place new c.self.invariant.order placed other (omega arith) (omega (arith, c.if-index-from.false, c.from.ensures)));
    }

pub returns-else-is_of : goal.returns-else-is_of
returns-else-is_of g c =
    let notes = c.self.inside.notes.items in
    let place = c.place_of-place.result in
    let new : Note g.row.T.Denot = record { index = c.args.index; what = c.args.what } in
    let placed = subst (λ (l : List (Note g.row.T.Denot)). IsPlaceFor l c.args.index place) c.as_slice.ensures.value c.place_of-place.ensures in
    let inserted : c.insert.new.self.items ≡ insert notes place new = rw c.unwrap.ensures at c.insert.ensures.items in
    filled c.self.inside.cells c.args.index c.args.what notes c.insert.new.self.items (omega (arith, c.if-index-from.false, c.from.ensures))
    (λ k. ap (noted k) inserted ∙ noted_insert notes place k new placed)
    ∙ ap (λ cells. slice_set cells c.args.index (Some c.args.what)) c.self.view_is
