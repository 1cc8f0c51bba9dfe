use Rattle.std.proofs.Common.{refl, ap, ◌∙◌}
use Rattle.std.specs.Prelude.{is_some}
use Rattle.m17_gate.specs.Fits.{deny_all}
use Rattle.m17_gate.proofs.OpenLemmas.{asked_spelled}
use Rattle.m17_gate.proofs.QuickLemmas.{denied_refused}
use Rattle.m17_gate.proofs.quick.is_denied_to_all.Goals as goal

pub returns-in-Ok : goal.returns-in-Ok
returns-in-Ok c = c.is_some.ensures ∙ ap is_some c.asked_by.ensures
    ∙ asked_spelled c.bytes_ask_as_packets.ensures c.args.bytes.now c.in-Ok.packet
    ((c.in-Ok.ensures.ok c.in-Ok.packet).0 refl)

pub returns-in-Err : goal.returns-in-Err
returns-in-Err c =
    denied_refused c.bytes_ask_as_packets.ensures deny_all c.args.bytes.now c.in-Err.field-0
    ((c.in-Err.ensures.err c.in-Err.field-0).0 refl)
