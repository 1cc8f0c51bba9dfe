use Rattle.std.proofs.Common.{◌≡◌, ◌+◌, ◌<◌, ℕ, map, length, refl, ap, subst, ◌∙◌, arith}
use Rattle.m17_reflect.specs.Left.{drained}
use Rattle.m17_reflect.specs.Saying.{SaysRows}
use Rattle.m17_reflect.proofs.RestSaid.{rows_none, rows_more}
use Rattle.m17_reflect.proofs.PartsBack.{upto_all, upto_found, upto_next, read_is, map_get, map_put, map_count, same_rows}
use Rattle.m17_reflect.proofs.rest.say_rows.Goals as goal

pub loop-row-init : goal.loop-row-init
loop-row-init g c = record {
  said = rows_none g.M.Mouth.told c.mouths_say_in_turn.ensures c.args.name (map (λ row. row.items) c.args.held.now.items) (map (λ row. row.items) c.args.queues.now.items) c.args.mouths.now.items;
  queues = refl;
  same_length = refl;
}

pub say_row-requires : goal.say_row-requires
say_row-requires g c =
    let now = c.loop-row in let queues = c.args.queues.now in let held = c.args.held.now in
    let lt : now.row < length now.queues.items = omega (arith, now.invariant.same_length, c.len-row-end.ensures, now.queues.ok.0) in
    let there = upto_found (map drained) (map (λ row. row.items) queues.items) (map (λ row. row.items) now.queues.items) now.row c.index_mut.result.now.items now.invariant.queues
    (map_get (λ row. row.items) now.queues.items now.row c.index_mut.result.now (read_is now.queues.items now.row c.index_mut.result.now lt c.index_mut.ensures.value)) in
    let rows = ap length c.requires.cells in
    let cells = map_get (λ row. row.items) held.items now.row c.index.result.now
    (read_is held.items now.row c.index.result.now
    (omega (arith, rows, map_count (λ row. length row.items) held.items, map_count (λ row. length row.items) queues.items, c.len-row-end.ensures, queues.ok.0))
    c.index.ensures) in
    record {
      cells = same_rows (λ row. row.items) (λ row. row.items) held.items queues.items now.row c.index.result.now.items c.index_mut.result.now.items c.requires.cells cells there;
    }

pub loop-row-preserved : goal.loop-row-preserved
loop-row-preserved g c =
    let now = c.loop-row in let before = now.invariant in let queues = c.args.queues.now in let held = c.args.held.now in
    let rows_now = map (λ row. row.items) now.queues.items in let rows_then = map (λ row. row.items) queues.items in
    let lt : now.row < length now.queues.items = omega (arith, before.same_length, c.len-row-end.ensures, now.queues.ok.0) in
    let there = upto_found (map drained) rows_then rows_now now.row c.index_mut.result.now.items before.queues
    (map_get (λ row. row.items) now.queues.items now.row c.index_mut.result.now (read_is now.queues.items now.row c.index_mut.result.now lt c.index_mut.ensures.value)) in
    let rows = ap length c.requires.cells in
    let cells = map_get (λ row. row.items) held.items now.row c.index.result.now
    (read_is held.items now.row c.index.result.now
    (omega (arith, rows, map_count (λ row. length row.items) held.items, map_count (λ row. length row.items) queues.items, c.len-row-end.ensures, queues.ok.0))
    c.index.ensures) in
    let same = same_rows (λ row. row.items) (λ row. row.items) held.items queues.items now.row c.index.result.now.items c.index_mut.result.now.items c.requires.cells cells there in record {
      said = rows_more g.M.Mouth.told c.mouths_say_in_turn.ensures c.spelled_part_by_part.ensures c.args.name now.row (now.row + 1)
          (map (λ row. row.items) held.items) rows_then c.index.result.now.items c.index_mut.result.now.items
          c.args.mouths.now.items now.mouths.items c.say_row.new.mouths.items (omega arith) cells there same before.said
          (c.say_row.ensures.said now.row);
      queues = map_put (λ row. row.items) now.queues.items now.row c.say_row.new.queues
          ∙ upto_next (map drained) rows_then rows_now now.row (now.row + 1) c.index_mut.result.now.items c.say_row.new.queues.items (omega arith)
          before.queues there c.say_row.ensures.drained;
      same_length = before.same_length;
    }

pub returns-clause-drained : goal.returns-clause-drained
returns-clause-drained g c =
    c.loop-row.invariant.queues
    ∙ upto_all (map drained) (map (λ row. row.items) c.args.queues.now.items) c.loop-row.row
    (omega (arith, c.len-row-end.ensures, c.args.queues.now.ok.0, map_count (λ row. row.items) c.args.queues.now.items))

pub returns-clause-said : goal.returns-clause-said
returns-clause-said g c =
    let all : c.loop-row.row ≡ length c.args.queues.now.items = omega (arith, c.len-row-end.ensures, c.args.queues.now.ok.0) in
    subst (λ (n : ℕ). SaysRows g.M.Mouth.told c.args.name n (map (λ row. row.items) c.args.held.now.items) (map (λ row. row.items) c.args.queues.now.items)
    c.args.mouths.now.items c.loop-row.mouths.items) all c.loop-row.invariant.said
