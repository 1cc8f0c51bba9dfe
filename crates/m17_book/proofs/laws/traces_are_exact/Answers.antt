use Rattle.m17_book.proofs.TraceExact.{traces_are_exact}
use Rattle.m17_book.proofs.laws.traces_are_exact.Goals as goal

pub returns : goal.returns
returns c = traces_are_exact c.fields_of_16_bits_are_exact.ensures c.fields_of_64_bits_are_exact.ensures
