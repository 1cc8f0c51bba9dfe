use Rattle.std.proofs.Common.{◌≡◌, List, insert, sym, ap, subst, ◌∙◌, refl, arith, length}
use Rattle.std.proofs.lemmas.List.Edits.{length-insert}
use Rattle.m17_directory.specs.declared.known.Known.{Known}
use Rattle.m17_directory.specs.Steps.{IsInOrder, IsEarliest, with_row}
use Rattle.m17_directory.proofs.Tables.{earliest_insert}
use Rattle.m17_directory.proofs.Rows.{order_put}
use Rattle.m17_directory.proofs.table.Table.insert.Goals as goal

inserted : (c : goal.After-self-1) → c.insert.new.self.items ≡ insert c.self.inside.rows.items c.args.gap c.args.known.now
inserted c = rw c.unwrap.ensures at c.insert.ensures.items

put : (c : goal.After-self-1) → insert c.self.inside.rows.items c.args.gap c.args.known.now ≡ with_row c.args.known.now c.self.inside.rows.items
put c =
    ap (λ (ks : List Known). insert ks c.args.gap c.args.known.now) c.self.view_is
    ∙ c.requires.gap.put c.args.known.now refl
    ∙ ap (with_row c.args.known.now) (sym c.self.view_is)

pub invariant_of-self : goal.invariant_of-self
invariant_of-self c =
    let rows = c.self.inside.rows.items in
    let known = c.args.known.now in
    let short = c.requires.few in
    let within = c.requires.gap.within in
    let same = ap length c.self.view_is in
    record {
      room = omega (arith, c.self.invariant.room, c.insert.ensures.capacity);
      few = omega (arith, short, same, ap length (inserted c), length-insert rows c.args.gap known (omega (arith, within, same)));
      order = subst (λ (ks : List Known). IsInOrder ks) (sym (inserted c ∙ put c)) (order_put known rows c.self.invariant.order);
      first = subst (λ (ks : List Known). IsEarliest c.min-self-inside.result ks) (sym (inserted c))
          (earliest_insert c.self.inside.earliest c.min-self-inside.result rows c.args.gap known (omega (arith, c.min-self-inside.ensures)) (omega (arith, c.min-self-inside.ensures)) c.self.invariant.first);
    }

pub returns : goal.returns
returns c = inserted c ∙ put c ∙ ap (with_row c.args.known.now) c.self.view_is
