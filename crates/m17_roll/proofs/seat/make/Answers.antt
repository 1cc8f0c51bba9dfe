use Rattle.std.proofs.Common.{rules, refl, sym, subst, ◌≡◌, ℕ, replicate, get_or, List, arith}
use Rattle.std.specs.Arc.{arc_value}
use Rattle.m17_roll.proofs.Dealing.{none_taken, many, other_seated, last_seated, last_viewed}
use Rattle.m17_roll.proofs.Seats.{begins, splitting}
use Rattle.m17_roll.proofs.seat.make.Goals as goal

pub of_words-requires : goal.of_words-requires
of_words-requires c =
    let items : c.as_slice.result.now ≡ replicate c.args.places 0 = search rules in
    begins _ _ _ (search rules) (λ q. subst (λ (ws : List ℕ). ◌≡◌ {A = ℕ} (get_or ws q 0) 0) (sym items) (none_taken c.args.places q))

pub split_seat-another-requires : goal.split_seat-another-requires
split_seat-another-requires c =
    let d = c.loop-table.invariant.2 in
    let test = c.loop-table-test.true in
    (search rules, search rules, splitting _ _ _ _ (many _ _ _ _ d (omega arith)))

pub invariant_of-push_reserved : goal.invariant_of-push_reserved
invariant_of-push_reserved c =
    let d = c.loop-table.invariant.2 in
    let e = c.split_seat-another.ensures in
    let at : arc_value c.in_ok-shared.shared ≡ arc_value c.in_ok-table-2.table = search rules in
    other_seated record { table = c.in_ok-table-2.table; seat = c.loop-table.seat; places = c.args.places } _ _ _ _ d (search rules) at e.3 refl e.4

pub push_reserved-requires : goal.push_reserved-requires
push_reserved-requires c =
    let a = c.loop-table.invariant.0 in let b = c.loop-table.invariant.1 in omega arith

pub invariant_of-push_reserved-2 : goal.invariant_of-push_reserved-2
invariant_of-push_reserved-2 c =
    let d = c.loop-table.invariant.2 in
    let less = c.loop-table.invariant.1 in
    let test = c.loop-table-test.false in
    last_seated _ _ _ _ d (search rules) (omega arith)

pub push_reserved-requires-2 : goal.push_reserved-requires-2
push_reserved-requires-2 c =
    let a = c.loop-table.invariant.0 in let b = c.loop-table.invariant.1 in omega arith

pub returns : goal.returns
returns c =
    let d = c.loop-table.invariant.2 in
    let less = c.loop-table.invariant.1 in
    let test = c.loop-table-test.false in
    ((arc_value c.in_ok-table-2.table).shared.table_id, last_viewed _ _ _ _ _ d (omega arith) c.push_reserved-2.ensures.items)
