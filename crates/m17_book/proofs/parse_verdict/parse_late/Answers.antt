use Rattle.std.proofs.Common.{arith}
use Rattle.m17_book.proofs.Values.{no_late}
use Rattle.m17_book.proofs.parse_verdict.parse_late.Goals as goal

pub returns-then-last-ge-FRAME_NUMBERS-clause-none : goal.returns-then-last-ge-FRAME_NUMBERS-clause-none
returns-then-last-ge-FRAME_NUMBERS-clause-none c = λ verdict h.
    no_late c.fields_of_16_bits_are_exact.ensures c.args.value.now c.get_16-last.result (omega arith) c.get_16-last.ensures (λ e. omega arith) verdict h
