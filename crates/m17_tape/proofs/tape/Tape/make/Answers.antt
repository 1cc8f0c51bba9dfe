use Rattle.m17_tape.proofs.Rising.{cell_count, no_cell}
use Rattle.m17_tape.proofs.tape.Tape.make.Goals as goal

pub returns-clause-count : goal.returns-clause-count
returns-clause-count g c = cell_count _ _

pub returns-clause-none : goal.returns-clause-none
returns-clause-none g c = rw c.in_ok-notes.ensures.items (no_cell c.args.cells)
