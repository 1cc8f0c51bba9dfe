use Rattle.std.proofs.Common.{arith}
use Rattle.m17_client.proofs.Taking.{first_kept}
use Rattle.m17_client.proofs.bridge.kept_among.Goals as goal

pub returns-in-Keep : goal.returns-in-Keep
returns-in-Keep c = first_kept c.args.actions.now c.loop-action.action-index c.action-item.result c.in-Keep.packet
    (omega arith) c.action-item.is c.in-Keep.is c.loop-action.invariant
