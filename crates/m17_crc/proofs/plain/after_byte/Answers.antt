use Rattle.std.proofs.Common.{arith}
use Rattle.m17_crc.proofs.Linear.{place_more, place_all}
use Rattle.m17_crc.proofs.plain.after_byte.Goals as goal

pub loop-place-preserved : goal.loop-place-preserved
loop-place-preserved c =
    place_more c.args.remainder c.loop-place.remainder c.args.byte c.loop-place.place c.from.result c.after_bit-remainder.result c.loop-place-test.true c.loop-place.invariant c.from.ensures c.after_bit-remainder.ensures

pub returns : goal.returns
returns c = place_all c.args.remainder c.loop-place.remainder c.args.byte c.loop-place.place (omega arith) c.loop-place.invariant
