use Rattle.std.proofs.Common.{rules, arith}
use Rattle.m17_book.proofs.Magics.{begins_so}
use Rattle.m17_book.proofs.parse_header.parse_magic.Goals as goal

pub returns : goal.returns
returns c = (omega arith, begins_so c.args.b.now c.args.magic.now (search rules) (omega arith) (λ k h. c.loop-place.invariant k (omega arith)))
