use Rattle.m17_stream.proofs.Packets.{exact_ok, exact_err}
use Rattle.m17_stream.proofs.bytes.read.Goals as goal

pub returns-clause-ok : goal.returns-clause-ok
returns-clause-ok c =
    exact_ok c.one_spelling.ensures c.fields_of_16_bits_are_exact.ensures c.crc_has_16_bits.ensures c.args.b.now c.read_first.result c.read_first.ensures

pub returns-clause-err : goal.returns-clause-err
returns-clause-err c =
    exact_err c.fields_of_16_bits_are_exact.ensures c.crc_has_16_bits.ensures c.args.b.now c.read_first.result c.read_first.ensures
