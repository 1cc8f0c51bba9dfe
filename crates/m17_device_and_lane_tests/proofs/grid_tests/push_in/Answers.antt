use Rattle.m17_device_and_lane_tests.proofs.Grids.{same_put}
use Rattle.m17_device_and_lane_tests.proofs.grid_tests.push_in.Goals as goal

pub returns-then-lane-len-clause-grid : goal.returns-then-lane-len-clause-grid
returns-then-lane-len-clause-grid g c =
    let columns = c.args.columns.now in let was = c.index_mut.result.now in
    same_put (λ column. column.items) columns.items c.args.poppers.now.items c.args.place.0 c.args.place.1 c.args.item was c.push_at.new.row
    c.index_mut.ensures.value c.push_at.ensures.row c.rows_push.ensures c.grids_stand.ensures c.requires.grid
