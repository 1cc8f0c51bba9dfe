use Rattle.std.proofs.Common.{refl}
use Rattle.m17_client.specs.declared.state.Input.TheVariants.{Send}
use Rattle.m17_client.specs.Sides.{of}
use Rattle.m17_client.proofs.bridge.Bridge.send.Goals as goal

pub returns-clause-sent : goal.returns-clause-sent
returns-clause-sent c = (
  record {
    input = Send c.args.packet.now;
    actions = c.step_client.new.actions.items;
    after = of c.args.side c.step_client.new.self.clients;
  },
  refl,
  c.step_client.ensures.step,
  refl,
  rw c.as_slice.ensures.value at c.say_all.ensures.own,
)
