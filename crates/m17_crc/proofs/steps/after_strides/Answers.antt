use Rattle.std.proofs.Common.{◌*◌, ◌++◌, take, ap, ◌∙◌, append_assoc}
use Rattle.m17_crc.specs.Crc.{crc_of}
use Rattle.m17_crc.proofs.Strides.{stride_more}
use Rattle.m17_crc.proofs.steps.after_strides.Goals as goal

pub loop-stride-preserved : goal.loop-stride-preserved
loop-stride-preserved c = λ fed e.
    let so_far = take (c.loop-stride.stride * 8) c.args.bytes.now in
    c.after_stride-register.ensures (fed ++ so_far) (c.loop-stride.invariant fed e)
    ∙ ap crc_of (append_assoc fed so_far _ ∙ ap (λ xs. fed ++ xs) (stride_more c.args.bytes.now c.loop-stride.stride))
