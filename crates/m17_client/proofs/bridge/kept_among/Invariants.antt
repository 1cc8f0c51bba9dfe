use Rattle.std.proofs.Common.{◌≡◌, [], take}
use Rattle.std.specs.List.{flat_map}
use Rattle.m17_client.specs.Way.{kept_in}
use Rattle.m17_client.proofs.bridge.kept_among.Given as goal

abbrev pub invariant-loop-action : goal.invariant-loop-action
invariant-loop-action l = flat_map kept_in (take l.action-index l.actions) ≡ []
