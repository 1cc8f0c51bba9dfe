use Rattle.std.proofs.Common.{refl, sym, arith}
use Rattle.m17_sender.proofs.Queued.{goes_from_cell, goes_from_lane}
use Rattle.m17_sender.proofs.Shapes.{held_place, queue_at, queue_place}
use Rattle.m17_sender.proofs.sender.Sender.next.Goals as goal

pub cell_at-requires : goal.cell_at-requires
cell_at-requires g c =
    held_place c.args.self.now c.args.row c.args.at c.requires.shaped (omega (arith, c.requires.row, c.args.self.now.queues.ok.0))
    c.requires.at

pub empty_cell-requires : goal.empty_cell-requires
empty_cell-requires g c =
    held_place c.args.self.now c.args.row c.args.at c.requires.shaped (omega (arith, c.requires.row, c.args.self.now.queues.ok.0))
    c.requires.at

pub pop_in-requires-clause-at : goal.pop_in-requires-clause-at
pop_in-requires-clause-at g c =
    queue_at c.args.self.now c.args.row c.args.at c.requires.shaped (omega (arith, c.requires.row, c.args.self.now.queues.ok.0))
    c.requires.at

pub returns-in-Some-clause-goes_on : goal.returns-in-Some-clause-goes_on
returns-in-Some-clause-goes_on g c = λ noted.
    goes_from_cell g.M.Mouth.told c.args.self.now
    (record c.args.self.now { held = c.empty_cell.new.cells }) noted c.args.row c.args.at c.in-Some.held.now
    (record { name = refl; places = refl; mouths = refl; notes = refl; door = refl; order = refl }) refl refl
    (c.empty_cell.ensures c.in-Some.held.now (sym c.in-Some.ensures))

pub returns-clause-goes_on : goal.returns-clause-goes_on
returns-clause-goes_on g c = λ noted.
    goes_from_lane g.M.Mouth.told c.rows_pop.ensures
    c.grids_pop.ensures c.pop_in.result c.args.self.now
    (record c.args.self.now { queues = c.pop_in.new.grid }) noted c.args.row c.args.at
    (record { name = refl; places = refl; mouths = refl; notes = refl; door = refl; order = refl })
    (queue_place c.args.self.now c.args.row c.args.at c.requires.shaped
    (omega (arith, c.requires.row, c.args.self.now.queues.ok.0)) c.requires.at)
    c.pop_in.ensures.grid refl
