use Rattle.std.proofs.Common.{arith}
use Rattle.m17_directory.proofs.Tables.{earliest_more, earliest_all}
use Rattle.m17_directory.proofs.table.earliest_of.Goals as goal

pub loop-known-preserved : goal.loop-known-preserved
loop-known-preserved c =
    earliest_more c.loop-known.earliest c.min-earliest.result c.args.rows.now c.loop-known.known-index c.known-item.result c.loop-known-test.true c.known-item.is (omega (arith, c.min-earliest.ensures)) (omega (arith, c.min-earliest.ensures)) c.loop-known.invariant

pub returns : goal.returns
returns c = earliest_all c.loop-known.earliest c.args.rows.now c.loop-known.known-index (omega arith) c.loop-known.invariant
