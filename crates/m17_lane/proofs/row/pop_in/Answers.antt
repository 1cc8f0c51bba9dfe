use Rattle.std.proofs.Common.{vec_len, arith}
use Rattle.m17_lane.proofs.Places.{map_kept}
use Rattle.m17_lane.proofs.Steps.{popped_in}
use Rattle.m17_lane.proofs.row.pop_in.Goals as goal

pub returns-clause-grid : goal.returns-clause-grid
returns-clause-grid g c =
    popped_in (λ ends. ends.items) c.pop_at.result c.args.grid.now.items c.args.row c.args.at c.index_mut.result.now c.pop_at.new.row
    (omega (arith, c.args.grid.now.ok.0, c.requires.row)) c.index_mut.ensures.value c.pop_at.ensures.row

pub returns-clause-same_lengths : goal.returns-clause-same_lengths
returns-clause-same_lengths g c =
    map_kept (λ ends. vec_len ends) c.args.grid.now.items c.args.row c.index_mut.result.now c.pop_at.new.row
    c.index_mut.ensures.value c.pop_at.ensures.same_length
