use Rattle.std.proofs.Common.{◌≡◌, List, length, filter, not, ap, sym, ◌∙◌, subst, arith, rules, of_calls}
use Rattle.std.proofs.lemmas.Fn.{filter_same}
use Rattle.m17_directory.specs.declared.known.Known.{Known}
use Rattle.m17_directory.specs.Steps.{IsInOrder, IsEarliest, is_among}
use Rattle.m17_directory.proofs.Filters.{filter_le}
use Rattle.m17_directory.proofs.Rows.{order_filter}
use Rattle.m17_directory.proofs.table.Table.drop_all.Goals as goal

kept : (c : goal.After-self-1) → c.retain.new.self.items ≡ filter (λ k. not (is_among c.args.whom.now k)) c.self.inside.rows.items
kept c = filter_same _ (λ k. not (is_among c.args.whom.now k)) _ (λ x b f k. search (rules, of_calls)) _ _ c.retain.ensures.filtered

pub invariant_of-self : goal.invariant_of-self
invariant_of-self c =
    let rows = c.self.inside.rows.items in
    record {
      room = omega (arith, c.self.invariant.room, c.retain.ensures.capacity);
      few = omega (arith, c.self.invariant.few, ap length (kept c), filter_le (λ k. not (is_among c.args.whom.now k)) rows);
      order = subst (λ (ks : List Known). IsInOrder ks) (sym (kept c)) (order_filter (λ k. not (is_among c.args.whom.now k)) rows c.self.invariant.order);
      first = subst (λ (ks : List Known). IsEarliest c.earliest_of-self-inside.result ks) c.as_slice.ensures.value c.earliest_of-self-inside.ensures;
    }

pub returns : goal.returns
returns c = kept c ∙ ap (filter (λ k. not (is_among c.args.whom.now k))) c.self.view_is
