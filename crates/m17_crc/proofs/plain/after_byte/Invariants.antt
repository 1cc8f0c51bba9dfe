use Rattle.std.proofs.Common.{◌≡◌, take, fold}
use Rattle.m17_crc.specs.Crc.{byte_bits}
use Rattle.m17_crc.specs.Register.{after_bit}
use Rattle.m17_crc.proofs.plain.after_byte.Given as goal

abbrev pub invariant-loop-place : goal.invariant-loop-place
invariant-loop-place l = l.remainder ≡ fold after_bit l.fn.remainder (take l.place (byte_bits l.byte))
