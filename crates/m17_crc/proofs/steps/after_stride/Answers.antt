use Rattle.std.proofs.Common.{sym, ap, ◌∙◌, fold, arith}
use Rattle.m17_crc.specs.Register.{after_byte}
use Rattle.m17_crc.proofs.Strides.{crc_of-bytes, stride_step}
use Rattle.m17_crc.proofs.steps.after_stride.Goals as goal

pub returns : goal.returns
returns c = λ fed e.
    stride_step c.args.register c.args.bytes.now c.to_be_bytes.result (omega arith) c.requires (λ k _. omega (arith, c.type_inv.bytes k)) c.to_be_bytes.ensures
    ∙ ap (λ n. fold after_byte n c.args.bytes.now) e
    ∙ sym (crc_of-bytes fed c.args.bytes.now)
