use Rattle.m17_sender.proofs.Filled.{fills_row}
use Rattle.m17_sender.proofs.cells.fill_cell.Goals as goal

pub returns : goal.returns
returns c =
    fills_row (λ row. row.items) c.args.cells.now.items c.args.row c.args.at c.index_mut.result.now c.put.new.row c.args.item
    c.requires.place c.index_mut.ensures.value c.put.ensures c.requires.free
