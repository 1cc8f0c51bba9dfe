use Rattle.std.proofs.Common.{refl}
use Rattle.m17_gate.proofs.QuickLemmas.{asks_spelled, asks_refused}
use Rattle.m17_gate.proofs.quick.asks_to_talk.Goals as goal

pub returns-in-Ok : goal.returns-in-Ok
returns-in-Ok c =
    asks_spelled c.bytes_ask_as_packets.ensures c.args.bytes.now c.in-Ok.field-0
    ((c.in-Ok.ensures.ok c.in-Ok.field-0).0 refl) c.requires

pub returns-in-Err : goal.returns-in-Err
returns-in-Err c =
    asks_refused c.bytes_ask_as_packets.ensures c.args.bytes.now c.in-Err.field-0
    ((c.in-Err.ensures.err c.in-Err.field-0).0 refl)
