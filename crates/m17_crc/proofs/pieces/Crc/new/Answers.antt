use Rattle.std.proofs.Common.{sym}
use Rattle.m17_crc.proofs.Division.{crc_of-nil}
use Rattle.m17_crc.proofs.pieces.Crc.new.Goals as goal

pub returns : goal.returns
returns c = sym crc_of-nil
