use Rattle.std.proofs.Common.{arith}
use Rattle.m17_sender.proofs.Shapes.{held_place}
use Rattle.m17_sender.proofs.sender.Sender.is_held_up.Goals as goal

pub cell_at-requires : goal.cell_at-requires
cell_at-requires g c =
    held_place c.args.self.now c.args.row c.args.at c.requires.shaped (omega (arith, c.requires.row, c.args.self.now.queues.ok.0))
    c.requires.at
