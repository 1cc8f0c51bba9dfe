use Rattle.std.proofs.Common.{◌≡◌, ℕ, ◌*◌, ◌++◌, List, take}
use Rattle.m17_crc.specs.Crc.{crc_of}
use Rattle.m17_crc.proofs.steps.after_strides.Given as goal

abbrev pub invariant-loop-stride : goal.invariant-loop-stride
invariant-loop-stride l = (fed : List ℕ) → l.fn.register ≡ crc_of fed → l.register ≡ crc_of (fed ++ take (l.stride * 8) l.bytes)
