use Rattle.m17_stream.proofs.Reading.{one_reading}
use Rattle.m17_stream.proofs.laws.reading_is_exact.Goals as goal

pub returns : goal.returns
returns c =
    one_reading c.fields_of_16_bits_are_exact.ensures c.fields_are_exact.ensures c.each_28_bytes_are_link_setup_data.ensures c.crc_has_16_bits.ensures
