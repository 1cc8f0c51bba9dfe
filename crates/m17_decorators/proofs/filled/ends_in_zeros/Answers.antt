use Rattle.std.proofs.Common.{ℕ, List, drop, ap, ◌∙◌}
use Rattle.std.specs.Str.{bytes_eq}
use Rattle.m17_decorators.proofs.Packets.{tail_is}
use Rattle.m17_decorators.proofs.filled.ends_in_zeros.Goals as goal

pub returns : goal.returns
returns c = c.eq.ensures
    ∙ ap (λ (tail : List ℕ). bytes_eq tail c.as_slice.result.now) (tail_is c.args.bytes.now)
    ∙ ap (bytes_eq (drop 52 c.args.bytes.now)) c.as_slice.ensures
