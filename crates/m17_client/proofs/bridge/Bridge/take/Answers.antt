use Rattle.m17_client.specs.OneStep.{kept_now}
use Rattle.m17_client.proofs.Taking.{passes_not, passes_on}
use Rattle.m17_client.proofs.bridge.Bridge.take.Goals as goal

pub returns-then-lets_pass-clause-taken : goal.returns-then-lets_pass-clause-taken
returns-then-lets_pass-clause-taken c = λ before latest.
    let kept = kept_now c.args.self.now c.args.side c.args.packet.now in
    let lets = c.lets_pass.ensures before c.args.packet.now latest in
    let sent = rw c.opposite.ensures at c.send.ensures.sent in
    passes_on kept before c.args.self.now c.note.new.self c.send.new.self c.args.out.now.items c.send.new.out.items
    sent.0 (lets.0 c.if-lets_pass.true) c.note.ensures.latest c.note.ensures.passed c.note.ensures.clients
    c.note.ensures.moment sent.1 sent.2 sent.3 sent.4 (rw c.opposite.ensures at c.send.ensures.rest)
    (rw c.opposite.ensures at c.send.ensures.other)

pub returns-else-lets_pass-clause-taken : goal.returns-else-lets_pass-clause-taken
returns-else-lets_pass-clause-taken c = λ before latest.
    let kept = kept_now c.args.self.now c.args.side c.args.packet.now in
    let lets = c.lets_pass.ensures before c.args.packet.now latest in
    passes_not kept before c.args.self.now c.args.out.now.items
    (λ p. let passes = lets.1 p in let fails = c.if-lets_pass.false in absurd (cc)) latest
