use Rattle.m17_app.proofs.Passed.{links_hear_passed}
use Rattle.m17_app.proofs.laws.links_hear_what_passes.Goals as goal

pub returns : goal.returns
returns g c = links_hear_passed c.links_hear_what_their_ears_tell.ensures
