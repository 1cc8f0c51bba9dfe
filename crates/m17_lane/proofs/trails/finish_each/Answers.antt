use Rattle.std.proofs.Common.{◌≡◌, ◌≤◌, [], map, length, All, vec_len, vec_capacity, sym, subst, refl, ap, ◌∙◌, arith}
use Rattle.std.proofs.lemmas.List.{length-map, nil_from_length}
use Rattle.m17_lane.specs.Ends.{logs_of, refused_of}
use Rattle.m17_lane.specs.Trails.{AreTrails}
use Rattle.m17_lane.proofs.Returns.{take_whole, all_long, back_none, back_more, back_all, taking, some_ends}
use Rattle.m17_lane.proofs.trails.finish_each.Goals as goal

pub loop-popper-init : goal.loop-popper-init
loop-popper-init g c =
    let none = ap length c.requires.empty in let cols = map (λ column. column.items) c.args.columns.now.items in record {
      columns = take_whole cols (length c.args.poppers.now.items) (all_long cols c.args.poppers.now.items c.requires.grid);
      back = back_none cols c.args.poppers.now.items c.args.trails.now.items c.requires.empty;
      same_length = refl;
      shells = c.requires.shells;
      enough = c.requires.enough;
      number = omega (arith, none, c.args.trails.now.ok.0);
      same_room = refl;
    }

pub take_row-row-requires-clause-some : goal.take_row-row-requires-clause-some
take_row-row-requires-clause-some g c =
    let now = c.loop-popper in
    some_ends (λ column. column.items) (λ column. vec_len column) (λ column. column.ok.0) now.columns.items
    (map (λ column. column.items) c.args.columns.now.items) c.args.poppers.now.items now.poppers.items c.pop.new.self.items c.in-Some.popper
    now.trails.items c.requires.grid now.invariant.back c.in-Some.ensures.items now.invariant.columns

pub finish-requires-clause-of_one_lane : goal.finish-requires-clause-of_one_lane
finish-requires-clause-of_one_lane g c =
    let now = c.loop-popper in let row = c.take_row-row in let old = c.args.columns.now in
    let took = taking (map (λ column. column.items) old.items) (map (λ column. column.items) now.columns.items) (map (λ column. column.items) row.new.columns.items)
    c.args.poppers.now.items now.poppers.items c.pop.new.self.items c.in-Some.popper now.trails.items row.result.items c.requires.grid
    now.invariant.back c.in-Some.ensures.items now.invariant.columns row.ensures.taken
    (omega (arith, row.ensures.same_length, now.invariant.same_length, row.new.columns.ok.0, old.ok.0, length-map row.new.columns.items (λ column. column.items), length-map old.items (λ column. column.items)))
    (omega (arith, row.ensures.count, now.invariant.same_length, row.result.ok.0, old.ok.0, length-map old.items (λ column. column.items))) in
    took.lane

pub finish-requires-clause-all : goal.finish-requires-clause-all
finish-requires-clause-all g c =
    let now = c.loop-popper in let row = c.take_row-row in let old = c.args.columns.now in
    let took = taking (map (λ column. column.items) old.items) (map (λ column. column.items) now.columns.items) (map (λ column. column.items) row.new.columns.items)
    c.args.poppers.now.items now.poppers.items c.pop.new.self.items c.in-Some.popper now.trails.items row.result.items c.requires.grid
    now.invariant.back c.in-Some.ensures.items now.invariant.columns row.ensures.taken
    (omega (arith, row.ensures.same_length, now.invariant.same_length, row.new.columns.ok.0, old.ok.0, length-map row.new.columns.items (λ column. column.items), length-map old.items (λ column. column.items)))
    (omega (arith, row.ensures.count, now.invariant.same_length, row.result.ok.0, old.ok.0, length-map old.items (λ column. column.items))) in
    took.count

pub loop-popper-preserved : goal.loop-popper-preserved
loop-popper-preserved g c =
    let now = c.loop-popper in let before = now.invariant in let row = c.take_row-row in let old = c.args.columns.now in let done = c.finish.ensures in
    let cols = map (λ column. column.items) old.items in
    let took = taking cols (map (λ column. column.items) now.columns.items) (map (λ column. column.items) row.new.columns.items)
    c.args.poppers.now.items now.poppers.items c.pop.new.self.items c.in-Some.popper now.trails.items row.result.items c.requires.grid
    before.back c.in-Some.ensures.items before.columns row.ensures.taken
    (omega (arith, row.ensures.same_length, before.same_length, row.new.columns.ok.0, old.ok.0, length-map row.new.columns.items (λ column. column.items), length-map old.items (λ column. column.items)))
    (omega (arith, row.ensures.count, before.same_length, row.result.ok.0, old.ok.0, length-map old.items (λ column. column.items))) in record {
      columns = took.columns;
      back = back_more cols c.args.poppers.now.items now.poppers.items c.pop.new.self.items c.in-Some.popper now.trails.items c.push_reserved.new.self.items
          c.finish.result before.back c.in-Some.ensures.items c.push_reserved.ensures.items (record {
            logs = done.logs ∙ ap logs_of took.row_is;
            refused = done.refused ∙ ap refused_of took.row_is;
            popped = done.popped;
            whole = done.whole;
          });
      same_length = omega (arith, row.ensures.same_length, before.same_length);
      shells = subst (λ n. All (λ shell. (shell.items ≡ []) × (n ≤ vec_capacity shell)) row.new.shells.items) before.same_length row.ensures.shells;
      enough = omega (arith, before.enough, row.ensures.fewer, c.in-Some.ensures.len);
      number = omega (arith, before.number, c.in-Some.ensures.len, c.push_reserved.ensures.len);
      same_room = omega (arith, before.same_room, c.push_reserved.ensures.capacity);
    }

pub returns-clause-trails : goal.returns-clause-trails
returns-clause-trails g c =
    let now = c.loop-popper in let cols = map (λ column. column.items) c.args.columns.now.items in
    let none = nil_from_length now.poppers.items (omega (arith, now.poppers.ok.0, c.in_default.ensures.cases.0)) in
    subst (λ ts. AreTrails cols c.args.poppers.now.items ts) (sym c.reverse.ensures.items)
    (back_all cols c.args.poppers.now.items now.poppers.items now.trails.items now.invariant.back none)
