use Rattle.m17_sender.proofs.Filled.{empties_row}
use Rattle.m17_sender.proofs.cells.empty_cell.Goals as goal

pub returns : goal.returns
returns c = λ item held.
    empties_row (λ row. row.items) c.args.cells.now.items c.args.row c.args.at c.index_mut.result.now c.put.new.row item
    c.requires c.index_mut.ensures.value c.put.ensures held
