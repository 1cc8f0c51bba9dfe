use Rattle.m17_laws.proofs.Bridged.{bridges_agree}
use Rattle.m17_laws.proofs.client_and_link_laws.bridges_agree.Goals as goal

pub returns : goal.returns
returns g c = bridges_agree c.both_ends_agree.ensures.ends c.passing_is_kept.ensures c.sides_are_clients_ends.ensures
