use Rattle.std.proofs.Common.{◌∙◌, ap, [], ◌∷◌}
use Rattle.m17_ports.specs.Told.{told_then}
use Rattle.m17_net.proofs.Prefixes.{found-first}
use Rattle.m17_net.proofs.taking.take_one.Goals as goal

pub returns-in-Ok-clause-taken : goal.returns-in-Ok-clause-taken
returns-in-Ok-clause-taken g c =
    let t = c.in-Ok.ensures.taken in
    let told = t.1 ∙ ap (λ b. told_then b ((c.in-Ok.from, t.0) ∷ [])) c.loop.invariant.taken in (
      c.in-Ok.from,
      t.0,
      told,
      c.peer_at.ensures,
      c.of.ensures.first ∙ found-first c.in-Ok.len c.take.new.into t.0 c.peer_at.array_long t.2,
    )
