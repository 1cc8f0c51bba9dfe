use Rattle.std.proofs.Common.{◌≡◌, List, map, set, sym, ap, subst, ◌∙◌, arith, length-set}
use Rattle.m17_directory.specs.declared.known.Known.{Known}
use Rattle.m17_directory.specs.Steps.{IsInOrder, heard_now}
use Rattle.m17_directory.proofs.Tables.{earliest_set}
use Rattle.m17_directory.proofs.Taken.{order_heard}
use Rattle.m17_directory.proofs.table.Table.heard.Goals as goal

pub invariant_of-self : goal.invariant_of-self
invariant_of-self c =
    let rows = c.self.inside.rows.items in
    let known = c.args.known.now in
    let heard : set rows c.args.row (record known { heard_at = c.args.moment }) ≡ map (heard_now known.peer c.args.moment) rows =
    ap (λ (ks : List Known). set ks c.args.row (record known { heard_at = c.args.moment })) c.self.view_is
    ∙ c.requires.heard c.args.moment
    ∙ ap (map (heard_now known.peer c.args.moment)) (sym c.self.view_is) in
    record {
      room = c.self.invariant.room;
      few = omega (arith, c.self.invariant.few, length-set {A = Known});
      order = subst (λ (ks : List Known). IsInOrder ks) (sym heard) (order_heard known.peer c.args.moment rows c.self.invariant.order);
      first = earliest_set c.self.inside.earliest _ rows c.args.row (record known { heard_at = c.args.moment }) (omega (arith, c.min-self-inside.ensures)) (omega (arith, c.min-self-inside.ensures)) c.self.invariant.first;
    }
