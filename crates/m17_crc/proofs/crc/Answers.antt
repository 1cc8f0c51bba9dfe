use Rattle.std.proofs.Common.{[], sym}
use Rattle.m17_crc.proofs.Division.{crc_of-nil}
use Rattle.m17_crc.proofs.crc.Goals as goal

pub returns : goal.returns
returns c = c.after_bytes.ensures [] (sym crc_of-nil)
