use Rattle.std.proofs.Common.{◌≡◌, ◌≤◌, ◌<◌, ◌+◌, [], List, length, map, Some, vec_len, vec_capacity, refl, sym, subst, ◌∙◌, arith}
use Rattle.std.specs.List.{slice_get}
use Rattle.m17_lane.specs.Ends.{TrailEnd}
use Rattle.m17_reflect.specs.Rows.{AreOfOnes}
use Rattle.m17_reflect.proofs.PartsBack.{Finished, finished_none, finished_more, same_later, found_below, map_count, map_get, map_put, read_is, zip_at, zip_length}
use Rattle.m17_reflect.proofs.finishing.finish_rows.Goals as goal

pub loop-row-init : goal.loop-row-init
loop-row-init g c =
    let pushers = c.args.pushers.now in let poppers = c.args.poppers.now in let trails = c.args.trails.now in
    let lanes = zip_length AreOfOnes (map (λ row. row.items) pushers.items) (map (λ row. row.items) poppers.items) c.requires.lanes in
    let rooms = zip_length (λ row room. (room.items ≡ []) × (vec_len row ≤ vec_capacity room)) poppers.items trails.items c.requires.rooms in record {
      pushers = record { each = λ m le. refl };
      poppers = record { each = λ m le. refl };
      trails = record { each = λ m le. refl };
      finished = finished_none (map (λ row. row.items) pushers.items) (map (λ row. row.items) poppers.items) (map (λ row. row.items) trails.items);
      pushers_length = omega (arith, lanes, map_count (λ row. row.items) pushers.items, map_count (λ row. row.items) poppers.items, pushers.ok.0, poppers.ok.0);
      poppers_length = refl;
      trails_length = omega (arith, rooms, trails.ok.0, poppers.ok.0);
    }

pub finish_row-requires : goal.finish_row-requires
finish_row-requires g c =
    let now = c.loop-row in let before = now.invariant in let test = c.loop-row-test.true in
    let pushers = c.args.pushers.now.items in let poppers = c.args.poppers.now.items in let trails = c.args.trails.now.items in
    let ends = c.index_mut-ends.result.now in let others = c.index_mut-others.result.now in let room = c.index_mut.result.now in
    let end_at : slice_get pushers now.row ≡ Some ends = sym (before.pushers.each now.row (omega arith))
    ∙ read_is now.pushers.items now.row ends (omega (arith, test, c.len-row-end.ensures, before.pushers_length, now.pushers.ok.0)) c.index_mut-ends.ensures.value in
    let other_at : slice_get poppers now.row ≡ Some others = sym (before.poppers.each now.row (omega arith))
    ∙ read_is now.poppers.items now.row others (omega (arith, test, c.len-row-end.ensures, before.poppers_length, now.poppers.ok.0)) c.index_mut-others.ensures.value in
    let room_at : slice_get trails now.row ≡ Some room = sym (before.trails.each now.row (omega arith))
    ∙ read_is now.trails.items now.row room (omega (arith, test, c.len-row-end.ensures, before.trails_length, now.trails.ok.0)) c.index_mut.ensures.value in
    let of = zip_at AreOfOnes (map (λ row. row.items) pushers) (map (λ row. row.items) poppers) c.requires.lanes now.row ends.items others.items
    (map_get (λ row. row.items) pushers now.row ends end_at) (map_get (λ row. row.items) poppers now.row others other_at) in
    let fits = zip_at (λ row room. (room.items ≡ []) × (vec_len row ≤ vec_capacity room)) poppers trails c.requires.rooms now.row others room other_at room_at in record {
      lanes = of.lanes;
      alone = of.alone;
      empty = fits.0;
      room = fits.1;
    }

pub loop-row-preserved : goal.loop-row-preserved
loop-row-preserved g c =
    let now = c.loop-row in let before = now.invariant in let test = c.loop-row-test.true in let done = c.finish_row.new in
    let pushers = c.args.pushers.now.items in let poppers = c.args.poppers.now.items in
    let ends = c.index_mut-ends.result.now in let others = c.index_mut-others.result.now in
    let end_at : slice_get pushers now.row ≡ Some ends = sym (before.pushers.each now.row (omega arith))
    ∙ read_is now.pushers.items now.row ends (omega (arith, test, c.len-row-end.ensures, before.pushers_length, now.pushers.ok.0)) c.index_mut-ends.ensures.value in
    let other_at : slice_get poppers now.row ≡ Some others = sym (before.poppers.each now.row (omega arith))
    ∙ read_is now.poppers.items now.row others (omega (arith, test, c.len-row-end.ensures, before.poppers_length, now.poppers.ok.0)) c.index_mut-others.ensures.value in
    let lt : now.row < length now.trails.items = omega (arith, test, c.len-row-end.ensures, before.trails_length, now.trails.ok.0) in record {
      pushers = same_later pushers now.pushers.items now.row (now.row + 1) done.pushers (omega arith) before.pushers;
      poppers = same_later poppers now.poppers.items now.row (now.row + 1) done.poppers (omega arith) before.poppers;
      trails = same_later c.args.trails.now.items now.trails.items now.row (now.row + 1) done.trails (omega arith) before.trails;
      finished = subst (λ (ts : List (List (TrailEnd g.row.T.Denot))). Finished (now.row + 1) (map (λ row. row.items) pushers) (map (λ row. row.items) poppers) ts)
          (sym (map_put (λ row. row.items) now.trails.items now.row done.trails))
          (finished_more (map (λ row. row.items) pushers) (map (λ row. row.items) poppers) (map (λ row. row.items) now.trails.items) now.row (now.row + 1)
          ends.items others.items done.trails.items (omega arith)
          (map_get (λ row. row.items) pushers now.row ends end_at) (map_get (λ row. row.items) poppers now.row others other_at)
          (omega (arith, lt, map_count (λ row. row.items) now.trails.items)) c.finish_row.ensures.trails before.finished);
      pushers_length = before.pushers_length;
      poppers_length = before.poppers_length;
      trails_length = before.trails_length;
    }

pub returns : goal.returns
returns g c =
    let now = c.loop-row in let before = now.invariant in let poppers = c.args.poppers.now in
    let count = map_count (λ row. row.items) poppers.items in record {
      count = omega (arith, count, map_count (λ row. row.items) now.trails.items, now.trails.ok.0, poppers.ok.0, before.trails_length);
      each = λ m qs ps ts eq ep et.
          let below = found_below (map (λ row. row.items) poppers.items) m ps ep in
          before.finished.each m qs ps ts (omega (arith, below, count, poppers.ok.0, c.len-row-end.ensures, c.loop-row-test.false)) eq ep et;
    }
