use Rattle.std.proofs.Common.{◌≡◌, ap, subst, refl}
use Rattle.m17_client.specs.declared.state.State.{State}
use Rattle.m17_client.specs.Standing.{Standing}
use Rattle.m17_client.specs.Client.{ByDatagram}
use Rattle.m17_client.proofs.client.Client.on_datagram.Goals as goal

pub returns-clause-step : goal.returns-clause-step
returns-clause-step c =
    let came : c.self.inside.state ≡ c.args.self.now.state =
    ap (λ (s : Standing). s.state) c.self.view_is in
    let answered = subst (λ (state : State). ByDatagram state c.args.bytes.now c.tick-tick.new.self
    c.answer-answer.result c.answer-answer.new.self) came
    (rw c.bytes.ensures.same at c.answer-answer.ensures) in (
      c.tick-tick.result,
      c.answer-answer.result,
      c.tick-tick.new.self,
      c.tick-tick.ensures,
      answered,
      rw (c.put-2.ensures, c.put.ensures, c.requires) refl,
    )
