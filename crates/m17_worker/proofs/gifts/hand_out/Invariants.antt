use Rattle.std.proofs.Common.{◌≡◌, List, ◌++◌, length}
use Rattle.m17_control.specs.declared.item.Item.{Item}
use Rattle.m17_worker.proofs.Handing.{Handed}
use Rattle.m17_worker.proofs.gifts.hand_out.Given as goal

abbrev pub invariant-loop-item : goal.invariant-loop-item
invariant-loop-item g l = (done : List Item)
    × (l.initial.basket ≡ done ++ l.basket)
    × Handed l.gives done l.basket l.bye (record { offers = l.initial.offers; seat = l.initial.seat }) (record { offers = l.offers; seat = l.seat })

abbrev pub decreases-loop-item : goal.decreases-loop-item
decreases-loop-item g l = length l.basket
