use Rattle.std.proofs.Common.{◌≡◌, List, set, sym, ap, subst, ◌∙◌, refl, arith, length-set}
use Rattle.m17_directory.specs.declared.known.Known.{Known}
use Rattle.m17_directory.specs.Steps.{IsInOrder, with_row}
use Rattle.m17_directory.proofs.Tables.{earliest_set}
use Rattle.m17_directory.proofs.Rows.{order_put}
use Rattle.m17_directory.proofs.table.Table.replace.Goals as goal

pub invariant_of-self : goal.invariant_of-self
invariant_of-self c =
    let rows = c.self.inside.rows.items in
    let known = c.args.known.now in
    let put : set rows c.args.row known ≡ with_row known rows =
    ap (λ (ks : List Known). set ks c.args.row known) c.self.view_is ∙ c.requires.put known refl ∙ ap (with_row known) (sym c.self.view_is) in
    record {
      room = c.self.invariant.room;
      few = omega (arith, c.self.invariant.few, length-set {A = Known});
      order = subst (λ (ks : List Known). IsInOrder ks) (sym put) (order_put known rows c.self.invariant.order);
      first = earliest_set c.self.inside.earliest _ rows c.args.row known (omega (arith, c.min-self-inside.ensures)) (omega (arith, c.min-self-inside.ensures)) c.self.invariant.first;
    }
