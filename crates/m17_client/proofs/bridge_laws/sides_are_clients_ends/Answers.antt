use Rattle.m17_client.proofs.ClientsEnd.{side_is_an_end}
use Rattle.m17_client.proofs.bridge_laws.sides_are_clients_ends.Goals as goal

pub returns : goal.returns
returns g c = side_is_an_end
