use Rattle.m17_client.proofs.KeptWay.{records_are}
use Rattle.m17_client.proofs.laws.records_are_of_kept_packets.Goals as goal

pub returns : goal.returns
returns c = records_are
