use Rattle.m17_fields.proofs.Exact.{exact_64}
use Rattle.m17_fields.proofs.laws.fields_of_64_bits_are_exact.Goals as goal

pub returns : goal.returns
returns c = exact_64
