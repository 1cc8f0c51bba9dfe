use Rattle.std.proofs.Common.{length, map, slice_index_or, ap, arith}
use Rattle.std.proofs.lemmas.List.{length-map}
use Rattle.m17_lane.proofs.Moves.{took, same_items, taken_all}
use Rattle.m17_lane.proofs.columns.collect.Goals as goal

pub unreachable-requires : goal.unreachable-requires
unreachable-requires g c =
    let now = c.loop-at in let old = c.args.columns.now in let was = c.index_mut.result.now in
    let before = slice_index_or old.items now.at was in
    let long = ap length (same_items (λ column. column.items) now.columns.items old.items now.at now.row.items was now.invariant.taken c.index_mut.ensures.value) in
    let some = c.requires.some now.at was (omega (arith, c.loop-at-test.true, c.len-at-end.ensures, old.ok.0)) in
    omega (arith, some, long, was.ok.0, before.ok.0, c.in-None.ensures.cases.0)

pub loop-at-preserved : goal.loop-at-preserved
loop-at-preserved g c =
    let now = c.loop-at in record {
      taken = took (λ column. column.items) now.columns.items c.args.columns.now.items now.at _ now.row.items c.push_reserved.new.self.items
          c.index_mut.result.now c.pop.new.self c.in-Some.item (omega arith) now.invariant.taken
          (omega (arith, c.loop-at-test.true, c.len-at-end.ensures, now.invariant.same_length, now.columns.ok.0))
          c.index_mut.ensures.value c.in-Some.ensures.items c.push_reserved.ensures.items;
      same_length = now.invariant.same_length;
      filled = omega (arith, now.invariant.filled, c.push_reserved.ensures.len);
      same_room = omega (arith, now.invariant.same_room, c.push_reserved.ensures.capacity);
    }

pub returns-clause-taken : goal.returns-clause-taken
returns-clause-taken g c =
    let now = c.loop-at in
    taken_all now.at (map (λ column. column.items) now.columns.items) now.row.items (map (λ column. column.items) c.args.columns.now.items) now.invariant.taken
    (omega (arith, c.loop-at-test.false, now.auto.at-end, c.len-at-end.ensures, now.invariant.same_length, now.columns.ok.0, length-map now.columns.items (λ column. column.items)))
