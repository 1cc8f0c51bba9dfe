use Rattle.std.proofs.Common.{length, drop, ap, ◌∙◌}
use Rattle.std.proofs.Math.Seq.{drop-append_seam}
use Rattle.m17_reflect.proofs.laws.what_is_left_is_the_rest.Goals as goal

pub returns : goal.returns
returns g c = λ t rest e. ap (drop (length t.popped)) e ∙ drop-append_seam t.popped rest
