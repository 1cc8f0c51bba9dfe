use Rattle.m17_callsign.proofs.Exact.{one_callsign}
use Rattle.m17_callsign.proofs.laws.each_address_has_one_callsign.Goals as goal

pub returns : goal.returns
returns c = one_callsign
