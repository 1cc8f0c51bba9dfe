use Rattle.std.proofs.Common.{◌≡◌, ◌+◌, ◌<◌, [], ◌∷◌, ◌++◌, length, map, vec_len, vec_capacity, sym, subst, refl, ap, ◌∙◌, append_assoc, append-nil, length-append, arith}
use Rattle.m17_lane.proofs.Moves.{dealt_at_first, changed_at_first, dealt_one, changed_one, still}
use Rattle.m17_lane.proofs.columns.deal.Goals as goal

pub loop-item-init : goal.loop-item-init
loop-item-init g c =
    let row = c.args.row.now in let columns = c.args.columns.now in
    let long : length row.items ≡ length columns.items = omega (arith, c.requires.count, row.ok.0, columns.ok.0) in record {
      put = ([], sym (append-nil row.items), dealt_at_first (λ column. column.items) columns.items (length row.items) long);
      rooms = changed_at_first (λ was is. (vec_len is ≡ vec_len was + 1) × (vec_capacity is ≡ vec_capacity was)) columns.items (length row.items) long;
      same_room = refl;
      same_length = refl;
      within = omega (arith, c.requires.count, row.ok.0);
    }

pub push_reserved-requires : goal.push_reserved-requires
push_reserved-requires g c =
    let now = c.loop-item in let columns = c.args.columns.now in let was = c.index_mut.result.now in
    let left = ap length c.in-Some.ensures.items ∙ length-append c.pop.new.self.items (c.in-Some.item ∷ []) in
    let at = still (λ was is. (vec_len is ≡ vec_len was + 1) × (vec_capacity is ≡ vec_capacity was)) now.columns.items columns.items
    (length now.row.items) c.len-at.result was (omega (arith, left, c.len-at.ensures, c.pop.new.self.ok.0)) now.invariant.rooms c.index_mut.ensures.value in
    subst (λ column. vec_len column < vec_capacity column) (sym at)
    (c.requires.room c.len-at.result was (omega (arith, left, c.len-at.ensures, c.pop.new.self.ok.0, now.invariant.within, columns.ok.0)))

pub loop-item-preserved : goal.loop-item-preserved
loop-item-preserved g c =
    let now = c.loop-item in let columns = c.args.columns.now in let before = now.invariant in let was = c.index_mut.result.now in
    let rest = c.pop.new.self.items in let item = c.in-Some.item in let gone = before.put.0 in
    let left = ap length c.in-Some.ensures.items ∙ length-append rest (item ∷ []) in record {
      put = (
        item ∷ gone,
        before.put.1 ∙ ap (λ l. l ++ gone) c.in-Some.ensures.items ∙ append_assoc rest (item ∷ []) gone,
        dealt_one (λ column. column.items) now.columns.items (map (λ column. column.items) columns.items) (length now.row.items) (length rest) c.len-at.result
            gone was c.push_reserved.new.self item (omega (arith, left)) (omega (arith, c.len-at.ensures, c.pop.new.self.ok.0)) before.put.2
            c.index_mut.ensures.value c.push_reserved.ensures.items,
      );
      rooms = changed_one (λ was is. (vec_len is ≡ vec_len was + 1) × (vec_capacity is ≡ vec_capacity was)) now.columns.items columns.items
          (length now.row.items) (length rest) c.len-at.result was c.push_reserved.new.self (omega (arith, left)) (omega (arith, c.len-at.ensures, c.pop.new.self.ok.0))
          before.rooms c.index_mut.ensures.value (c.push_reserved.ensures.len, c.push_reserved.ensures.capacity);
      same_room = omega (arith, before.same_room, c.pop.ensures.capacity);
      same_length = before.same_length;
      within = omega (arith, before.within, left);
    }
