use Rattle.m17_control.proofs.Reading.{exact}
use Rattle.m17_control.proofs.laws.decoding_is_exact.Goals as goal

pub returns : goal.returns
returns c = exact (record { fields = c.fields_of_48_bits_are_exact.ensures; callsigns = c.each_address_has_one_callsign.ensures }) c.reading_is_exact.ensures c.one_packet.ensures
