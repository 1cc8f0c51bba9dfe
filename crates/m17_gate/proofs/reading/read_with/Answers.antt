use Rattle.m17_gate.proofs.ReadLemmas.{read_ok, read_end, read_err}
use Rattle.m17_gate.proofs.reading.read_with.Goals as goal

pub returns-in-Ok-clause-ok : goal.returns-in-Ok-clause-ok
returns-in-Ok-clause-ok g c =
    read_ok c.in-Ok.have c.args.room.now c.fill.new.into (g.S.Input.told c.args.input.now).left
    (g.S.Input.told c.fill.new.input).left c.requires c.in-Ok.ensures.filled
    c.rules_in.result c.rules_in.ensures.refused

pub returns-in-Ok-clause-to_the_end : goal.returns-in-Ok-clause-to_the_end
returns-in-Ok-clause-to_the_end g c =
    read_end c.in-Ok.have c.args.room.now c.fill.new.into (g.S.Input.told c.args.input.now).left
    (g.S.Input.told c.fill.new.input).left c.requires c.in-Ok.ensures.filled
    c.rules_in.result c.rules_in.ensures.refused

pub returns-in-Ok-clause-err : goal.returns-in-Ok-clause-err
returns-in-Ok-clause-err g c =
    read_err c.in-Ok.have c.args.room.now c.fill.new.into (g.S.Input.told c.args.input.now).left
    (g.S.Input.told c.fill.new.input).left c.requires c.in-Ok.ensures.filled
    c.rules_in.result c.rules_in.ensures.refused
