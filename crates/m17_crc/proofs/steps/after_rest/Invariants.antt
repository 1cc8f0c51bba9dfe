use Rattle.std.proofs.Common.{◌≡◌, ℕ, ◌++◌, List, take}
use Rattle.m17_crc.specs.Crc.{crc_of}
use Rattle.m17_crc.proofs.steps.after_rest.Given as goal

abbrev pub invariant-loop-byte : goal.invariant-loop-byte
invariant-loop-byte l = (fed : List ℕ) → l.fn.register ≡ crc_of fed → l.register ≡ crc_of (fed ++ take l.byte-index l.bytes)
