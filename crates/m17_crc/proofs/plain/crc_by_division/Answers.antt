use Rattle.std.proofs.Common.{arith, sym}
use Rattle.std.proofs.lemmas.Grind.{common_steps}
use Rattle.m17_crc.proofs.Division.{crc_of-nil}
use Rattle.m17_crc.proofs.Linear.{crc_of-byte}
use Rattle.m17_crc.proofs.plain.crc_by_division.Goals as goal

pub loop-byte-init : goal.loop-byte-init
loop-byte-init c = sym crc_of-nil

pub loop-byte-preserved : goal.loop-byte-preserved
loop-byte-preserved c = grind (arith, common_steps, crc_of-byte)
