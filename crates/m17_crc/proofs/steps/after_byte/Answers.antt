use Rattle.std.proofs.Common.{sym, ap, ◌∙◌, arith}
use Rattle.m17_crc.specs.Register.{after_byte}
use Rattle.m17_crc.proofs.Linear.{crc_of-byte}
use Rattle.m17_crc.proofs.Entries.{byte_step}
use Rattle.m17_crc.proofs.steps.after_byte.Goals as goal

pub returns : goal.returns
returns c = λ fed e.
    byte_step c.args.register c.args.byte c.from.result c.to_be_bytes.result (omega arith) (omega arith) c.to_be_bytes.ensures c.from.ensures
    ∙ ap (λ n. after_byte n c.args.byte) e
    ∙ sym (crc_of-byte fed c.args.byte)
