use Rattle.m17_decorators.proofs.Packets.{filled_are_packets}
use Rattle.m17_decorators.proofs.fill_laws.filled_are_packets.Goals as goal

pub returns : goal.returns
returns c = filled_are_packets c.fields_of_16_bits_are_exact.ensures c.crc_has_16_bits.ensures
    c.reading_is_exact.ensures
