-- Six numbers stand one after another.
use Rattle.std.proofs.Common.{codes}
use Rattle.m17_replay.specs.Summary.{numbered}
use Rattle.m17_replay.proofs.Joined.{six_joined}
use Rattle.m17_replay.proofs.summary_lines.push_tally.Goals as goal

pub returns-clause-appended : goal.returns-clause-appended
returns-clause-appended c =
    rw c.push_count-6.ensures.appended (rw c.push_count-5.ensures.appended
    (rw c.push_count-4.ensures.appended (rw c.push_count-3.ensures.appended
    (rw c.push_count-2.ensures.appended (rw c.push_count.ensures.appended
    (six_joined c.args.line.now (numbered (codes " ackn") c.args.tally.now.ackn)
    (numbered (codes " nack") c.args.tally.now.nack) (numbered (codes " ping") c.args.tally.now.ping)
    (numbered (codes " pong") c.args.tally.now.pong) (numbered (codes " disc") c.args.tally.now.disc)
    (numbered (codes " frame") c.args.tally.now.frame)))))))
