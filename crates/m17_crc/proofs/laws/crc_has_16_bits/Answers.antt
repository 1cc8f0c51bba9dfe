use Rattle.m17_crc.proofs.Division.{crc_of-lt}
use Rattle.m17_crc.proofs.laws.crc_has_16_bits.Goals as goal

pub returns : goal.returns
returns c = crc_of-lt
