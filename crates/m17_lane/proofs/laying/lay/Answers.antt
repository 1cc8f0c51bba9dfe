use Rattle.std.proofs.Common.{◌≡◌, ◌≤◌, [], map, length, All, vec_len, vec_capacity, sym, subst, ap, arith}
use Rattle.std.proofs.lemmas.List.{length-map}
use Rattle.std.proofs.lemmas.List.Elements.{All-weaker, All-push, recursion_from_All}
use Rattle.m17_lane.specs.Laid.{IsLaid}
use Rattle.m17_lane.proofs.Lays.{laid_none, laid_next, shown_empty, one_more}
use Rattle.m17_lane.proofs.laying.lay.Goals as goal

pub loop-laid-init : goal.loop-laid-init
loop-laid-init g c =
    let made = c.in_ok-columns in let cols = map (λ column. column.items) made.columns.items in
    let none = shown_empty (λ column. column.items) made.columns.items (recursion_from_All (λ column. column.items ≡ []) made.columns.items
    (All-weaker (λ column. (column.items ≡ []) × (vec_capacity column ≡ c.args.lanes)) (λ column. column.items ≡ []) (λ column both. both.0) made.columns.items made.ensures.empty)) in
    let shells = ap length c.in_ok-shells.ensures.items in record {
      laid = subst (λ ps. IsLaid c.args.producers c.args.capacity cols ps) (sym c.in_ok-poppers.ensures.items)
          (laid_none c.args.producers c.args.capacity cols
          (omega (arith, made.ensures.count, made.columns.ok.0, length-map made.columns.items (λ column. column.items))) none);
      columns = All-weaker (λ column. (column.items ≡ []) × (vec_capacity column ≡ c.args.lanes)) (λ column. (vec_len column ≡ 0) × (vec_capacity column ≡ c.args.lanes))
          (λ column both. let e = ap length both.0 in (omega (arith, column.ok.0), both.1)) made.columns.items made.ensures.empty;
      poppers = (c.in_ok-poppers.ensures.len, c.in_ok-poppers.ensures.exact);
      shells = λ k d lt. absurd (omega arith);
      shell_count = (c.in_ok-shells.ensures.len, c.in_ok-shells.ensures.exact);
    }

pub loop-laid-preserved : goal.loop-laid-preserved
loop-laid-preserved g c =
    let now = c.loop-laid in let before = now.invariant in let made = c.in_ok-row in
    let cols = map (λ column. column.items) now.columns.items in record {
      laid = laid_next c.args.producers c.args.capacity cols (map (λ column. column.items) c.deal.new.columns.items) now.poppers.items c.push_reserved.new.self.items
          made.popper made.row.items before.laid made.ensures.popper made.ensures.pushers c.deal.ensures.put c.push_reserved.ensures.items;
      columns = one_more (λ column. vec_len column) (λ column. vec_capacity column) now.columns.items c.deal.new.columns.items now._laid c.args.lanes c.deal.ensures.rooms before.columns;
      poppers = (omega (arith, before.poppers.0, c.push_reserved.ensures.len), omega (arith, before.poppers.1, c.push_reserved.ensures.capacity));
      shells = subst (λ ss. All (λ shell. (shell.items ≡ []) × (c.args.producers ≤ vec_capacity shell)) ss) (sym c.push_reserved-in-loop-laid.ensures.items)
          (All-push (λ shell. (shell.items ≡ []) × (c.args.producers ≤ vec_capacity shell)) now.shells.items c.deal.new.row before.shells
          (c.deal.ensures.emptied, omega (arith, c.deal.ensures.same_room, made.ensures.count, made.row.ok.0, made.row.ok.1)));
      shell_count = (omega (arith, before.shell_count.0, c.push_reserved-in-loop-laid.ensures.len), omega (arith, before.shell_count.1, c.push_reserved-in-loop-laid.ensures.capacity));
    }
