use Rattle.std.proofs.Common.{arith}
use Rattle.m17_crc.proofs.Linear.{after_bit-same, after_bit-other}
use Rattle.m17_crc.proofs.plain.after_bit.Goals as goal

pub returns-then-remainder-bit : goal.returns-then-remainder-bit
returns-then-remainder-bit c = after_bit-same c.args.remainder c.args.bit (omega arith) (omega arith) (omega arith)

pub returns-else-remainder-bit : goal.returns-else-remainder-bit
returns-else-remainder-bit c = after_bit-other c.args.remainder c.args.bit (omega arith) (omega arith) (omega arith)
