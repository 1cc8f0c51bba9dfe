use Rattle.std.proofs.Common.{rules, arith}
use Rattle.m17_streams.proofs.Holding.{refilled}
use Rattle.m17_streams.proofs.buffered_source.BufferedSource.refill.Goals as goal

pub returns-clause-more : goal.returns-clause-more
returns-clause-more g c = λ bytes told.
    let below = rw (← c.self.view_is) at told in
    let takes = c.in_ok-n.ensures.taken bytes below in
    refilled bytes _ c.read.new.into _ _ c.in_ok-n.n _ (omega (arith, c.in_ok-n.ensures.within)) (omega (arith, c.in_ok-n.ensures.within)) (omega arith) takes
