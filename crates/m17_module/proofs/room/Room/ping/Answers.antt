use Rattle.std.proofs.Common.{◌≡◌, ◌≤◌, ◌++◌, [], List, Option, length, map, ap, ◌∙◌, arith}
use Rattle.std.proofs.lemmas.List.{length-map}
use Rattle.m17_control.specs.declared.item.Item.{Item}
use Rattle.m17_control.specs.declared.item.Said.{Said}
use Rattle.m17_module.specs.declared.seat.Seat.{Seat}
use Rattle.m17_module.specs.Seats.{members_of}
use Rattle.m17_module.specs.Items.{item_to}
use Rattle.m17_module.proofs.Places.{length-filter_map}
use Rattle.m17_module.proofs.room.Room.ping.Goals as goal

few : (what : Said) (seats slice : List (Option Seat)) (out out' : List Item) → out ≡ [] → out' ≡ out ++ map (item_to what) (members_of slice) → slice ≡ seats → length seats ≤ 256 → length out' ≤ 256
few what seats slice out out' empty told same most =
    let e : length out' ≡ length (members_of slice) = ap length (told ∙ ap (λ xs. xs ++ map (item_to what) (members_of slice)) empty) ∙ length-map (members_of slice) (item_to what) in
    omega (arith, length-filter_map (λ (o : Option Seat). o) slice, ap length same)

pub returns-clause-few : goal.returns-clause-few
returns-clause-few c = few _ c.self.inside.seats.items c.as_slice.result.now c.args.out.now c.tell_all.new.out c.requires c.tell_all.ensures.told c.as_slice.ensures.value c.self.invariant.at_most
