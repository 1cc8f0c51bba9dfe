use Rattle.std.proofs.Common.{sym, subst}
use Rattle.m17_text_commands.specs.Table.{TableKept, TableStandsFor}
use Rattle.m17_text_commands.proofs.Standing.{passed_more}
use Rattle.m17_text_commands.proofs.table.Table.pass.Goals as goal

pub returns : goal.returns
returns c = λ acts stands.
    let kept : TableKept = record { floor = c.self.inside.floor; owns = c.self.inside.owns.items; moment = c.self.inside.moment } in
    rw c.max-self-inside.ensures
    (passed_more c.other_acts_change_nothing.ensures acts c.args.at kept (subst (λ (k : TableKept). TableStandsFor acts k) (sym c.self.view_is) stands))
