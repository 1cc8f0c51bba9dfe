use Rattle.std.proofs.Common.{◌≡◌, leb, List, [], filter, ap, sym, ◌∙◌, subst}
use Rattle.m17_directory.specs.declared.known.Known.{Known}
use Rattle.m17_directory.specs.Routed.{is_silent}
use Rattle.m17_directory.proofs.Tables.{none_silent}
use Rattle.m17_directory.proofs.table.Table.may_be_silent.Goals as goal

pub returns : goal.returns
returns c = λ e.
    subst (λ (rows : List Known). filter (is_silent c.args.moment) rows ≡ []) c.self.view_is
    (none_silent c.args.moment c.self.inside.earliest c.self.inside.rows.items c.self.invariant.first (ap (leb 30000) (sym c.saturating_sub.ensures) ∙ e))
