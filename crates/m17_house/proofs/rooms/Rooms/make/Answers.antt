use Rattle.std.proofs.Common.{◌≡◌, ◌+◌, List, length, slice_get, Option, Some, subst, arith}
use Rattle.m17_module.specs.StandsFor.{ModuleKept}
use Rattle.m17_house.proofs.Cells.{new_more, room_of}
use Rattle.m17_house.proofs.rooms.Rooms.make.Goals as goal

pub loop-letter-preserved : goal.loop-letter-preserved
loop-letter-preserved c =
    let inv = c.loop-letter.invariant in
    let len : length c.loop-letter.cells.items + 65 ≡ c.loop-letter.letter = omega (arith, inv.1, c.loop-letter.cells.ok.0) in (
      omega (arith, inv.0, c.push_reserved.ensures.capacity),
      omega (arith, inv.1, c.push_reserved.ensures.len),
      omega arith,
      λ k cell is. new_more c.args.plan.now c.loop-letter.cells.items c.in_ok-room.room c.loop-letter.letter len inv.3 c.in_ok-room.ensures k cell
          (subst (λ (xs : List (Option ModuleKept)). slice_get xs k ≡ Some cell) c.push_reserved.ensures.items is),
    )

pub returns : goal.returns
returns c =
    let inv = c.loop-letter.invariant in
    let end : c.loop-letter.letter ≡ 91 = omega arith in
    let len : length c.loop-letter.cells.items ≡ 26 = omega (arith, inv.1, c.loop-letter.cells.ok.0) in
    λ letter served. room_of c.args.plan.now c.loop-letter.cells.items len inv.3 letter served
