use Rattle.std.proofs.Common.{◌≡◌, ◌+◌, ◌≤◌, ◌++◌, length, take}
use Rattle.std.specs.List.{flat_map}
use Rattle.m17_client.specs.TalkDevices.{said_by}
use Rattle.m17_client.specs.Sides.{opposite}
use Rattle.m17_client.specs.BridgeSteps.{said_on}
use Rattle.m17_client.proofs.bridge.say_all.Given as goal

abbrev pub invariant-loop-action : goal.invariant-loop-action
invariant-loop-action l = record {
  own : said_on l.side l.out.items
      ≡ said_on l.side l.initial.out.items ++ flat_map said_by (take l.action-index l.actions);
  other : said_on (opposite l.side) l.out.items ≡ said_on (opposite l.side) l.initial.out.items;
  short : length l.out.items ≤ length l.initial.out.items + l.action-index;
}
