use Rattle.m17_fields.proofs.Exact.{exact_32}
use Rattle.m17_fields.proofs.laws.fields_of_32_bits_are_exact.Goals as goal

pub returns : goal.returns
returns c = exact_32
