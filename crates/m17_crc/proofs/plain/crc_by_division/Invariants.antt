use Rattle.std.proofs.Common.{◌≡◌, take}
use Rattle.m17_crc.specs.Crc.{crc_of}
use Rattle.m17_crc.proofs.plain.crc_by_division.Given as goal

abbrev pub invariant-loop-byte : goal.invariant-loop-byte
invariant-loop-byte l = l.remainder ≡ crc_of (take l.byte-index l.bytes)
