use Rattle.std.proofs.Common.{refl, sym, length, take, IfOk, Ok, Err, None}
use Rattle.m17_net.specs.Wire.{found, HasTaken}
use Rattle.m17_net.proofs.Prefixes.{take-within}
use Rattle.m17_net.proofs.wire.UdpSocketWire.take.Goals as goal

pub returns-clause-taken : goal.returns-clause-taken
returns-clause-taken c =
    let b = c.recv_from.new.buf in
    elim c.recv_from.result as (λ v. IfOk v (λ r. HasTaken None (found r.1 (length b) (take r.0 b)) None))
    [ Ok r ↦ (take r.0 b, refl, sym (take-within r.0 b)) | Err _ ↦ tt ]
