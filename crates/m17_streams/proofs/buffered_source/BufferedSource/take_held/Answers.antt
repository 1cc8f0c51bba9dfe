use Rattle.std.proofs.Common.{rules, arith}
use Rattle.m17_streams.proofs.Holding.{slice_range-later}
use Rattle.m17_streams.proofs.buffered_source.BufferedSource.take_held.Goals as goal

pub returns-clause-held : goal.returns-clause-held
returns-clause-held g c =
    let count = rw c.deref.ensures.value at c.min-n.ensures in
    rw (← c.self.view_is) (slice_range-later c.self.inside.buffer.items c.self.inside.start c.self.inside.end c.min-n.result (omega (arith, count)))
