use Rattle.std.proofs.Common.{refl}
use Rattle.m17_client_commands.specs.Bridged.{bridge_told}
use Rattle.m17_client_commands.proofs.BridgeCommandKnown.{known_on}
use Rattle.m17_client_commands.proofs.BridgeCommandTold.{bridged_told, causes_told}
use Rattle.m17_client_commands.proofs.bridge_command.bridge.Goals as goal

pub returns-clause-causes : goal.returns-clause-causes
returns-clause-causes g c = λ reads.
    causes_told c.print_end-printed.result c.ending.result c.run_bridge-end.result reads _ _ c.ending.ensures.ok c.ending.ensures.err c.print_end-printed.ensures.cause

pub returns-clause-ended : goal.returns-clause-ended
returns-clause-ended g c =
    bridged_told c.print_end-printed.result c.args.order.now c.ending.result c.run_bridge-end.result _ _ _ c.ending.ensures.ok c.ending.ensures.err
    (record {
      asked = c.in-Ok.ensures.asked;
      no_fault = c.in-Ok.ensures.no_fault;
      new = bridge_told g.P.Ear.Ear.told g.P.Mouth.Mouth.told c.in-Ok.links;
      are_new = c.in-Ok.ensures.new;
      devices = _;
      handed_back = refl;
      crossed = c.run_bridge-end.ensures;
    })
    c.print_end-printed.ensures.prints

pub returns-clause-known : goal.returns-clause-known
returns-clause-known g c =
    known_on (g.P.KnownPorts.ears c.args.ports.now) (g.P.KnownPorts.mouths c.args.ports.now) _ _ _ _ c.run_bridge-end.ensures c.in-Ok.ensures.known
