use Rattle.std.proofs.Common.{◌≡◌, sym, ◌∙◌, ap, subst}
use Rattle.m17_client.specs.declared.state.State.{State}
use Rattle.m17_client.specs.declared.state.State.TheVariants.{Connected}
use Rattle.m17_client.specs.Standing.{Standing}
use Rattle.m17_client.specs.Client.{ByPacket}
use Rattle.m17_client.proofs.client.Client.take.Goals as goal

pub returns-in-Connected : goal.returns-in-Connected
returns-in-Connected c =
    let is : Connected c.in-Connected.heard_at ≡ c.args.self.now.state =
    sym c.in-Connected.is ∙ ap (λ (s : Standing). s.state) c.self.view_is in
    subst (λ (state : State). ByPacket state c.args.packet.now c.args.self.now
    c.take_connected.result c.take_connected.new.self) is
    (c.take_connected.ensures c.in-Connected.heard_at)
