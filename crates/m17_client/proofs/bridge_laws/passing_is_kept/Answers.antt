use Rattle.m17_client.proofs.ClientsEnd.{passing_kept}
use Rattle.m17_client.proofs.bridge_laws.passing_is_kept.Goals as goal

pub returns : goal.returns
returns c = passing_kept
