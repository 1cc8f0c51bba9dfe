use Rattle.m17_client.proofs.KeptWay.{talk_is_an_end}
use Rattle.m17_client.proofs.laws.talk_is_a_clients_end.Goals as goal

pub returns : goal.returns
returns g c = talk_is_an_end
