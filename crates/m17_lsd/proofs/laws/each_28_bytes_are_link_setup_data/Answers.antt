use Rattle.m17_lsd.proofs.Reading.{each_28_bytes}
use Rattle.m17_lsd.proofs.laws.each_28_bytes_are_link_setup_data.Goals as goal

pub returns : goal.returns
returns c = each_28_bytes c.fields_of_16_bits_are_exact.ensures c.fields_of_48_bits_are_exact.ensures
