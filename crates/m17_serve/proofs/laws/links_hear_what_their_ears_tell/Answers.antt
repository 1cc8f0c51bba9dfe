use Rattle.m17_serve.proofs.Hearing.{links_hear}
use Rattle.m17_serve.proofs.laws.links_hear_what_their_ears_tell.Goals as goal

pub returns : goal.returns
returns g c = links_hear c.headline_tells.ensures
