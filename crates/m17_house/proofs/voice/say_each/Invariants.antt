use Rattle.std.proofs.Common.{◌≡◌, List, ◌++◌, length}
use Rattle.std.specs.List.{filter_map}
use Rattle.m17_control.specs.declared.item.Item.{Item}
use Rattle.m17_house.specs.Replay.{packet_to}
use Rattle.m17_house.specs.Tallied.{HasSaidMore}
use Rattle.m17_house.proofs.voice.say_each.Given as goal

abbrev pub invariant-loop-item : goal.invariant-loop-item
invariant-loop-item l = (done : List Item) × (l.initial.out ≡ done ++ l.out)
    × HasSaidMore (λ x. filter_map (packet_to x l.name) done) l.initial.mouth l.mouth

abbrev pub decreases-loop-item : goal.decreases-loop-item
decreases-loop-item l = length l.out
