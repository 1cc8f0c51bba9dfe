use Rattle.m17_fields.proofs.Exact.{exact_16}
use Rattle.m17_fields.proofs.laws.fields_of_16_bits_are_exact.Goals as goal

pub returns : goal.returns
returns c = exact_16
