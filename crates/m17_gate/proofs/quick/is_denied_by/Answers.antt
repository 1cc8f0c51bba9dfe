use Rattle.std.proofs.Common.{refl, ap, ◌∙◌}
use Rattle.std.specs.Prelude.{not}
use Rattle.m17_gate.proofs.QuickLemmas.{denied_spelled, denied_refused}
use Rattle.m17_gate.proofs.quick.is_denied_by.Goals as goal

pub returns-in-Ok : goal.returns-in-Ok
returns-in-Ok c = ap not c.allowed.ensures
    ∙ denied_spelled c.bytes_ask_as_packets.ensures c.args.rules.now c.args.bytes.now c.in-Ok.packet
    ((c.in-Ok.ensures.ok c.in-Ok.packet).0 refl)

pub returns-in-Err : goal.returns-in-Err
returns-in-Err c =
    denied_refused c.bytes_ask_as_packets.ensures c.args.rules.now c.args.bytes.now c.in-Err.field-0
    ((c.in-Err.ensures.err c.in-Err.field-0).0 refl)
