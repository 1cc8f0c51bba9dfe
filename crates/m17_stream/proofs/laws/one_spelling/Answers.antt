use Rattle.m17_stream.proofs.Packets.{one_spelling}
use Rattle.m17_stream.proofs.laws.one_spelling.Goals as goal

pub returns : goal.returns
returns c = one_spelling c.fields_are_exact.ensures c.fields_of_16_bits_are_exact.ensures
