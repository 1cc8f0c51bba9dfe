-- The word, the space and the number are one piece.
use Rattle.std.proofs.Common.{◌++◌, codes, decimal}
use Rattle.m17_replay.specs.Summary.{numbered}
use Rattle.m17_replay.proofs.Joined.{two_joined}
use Rattle.m17_replay.proofs.summary_lines.push_count.Goals as goal

pub returns-clause-appended : goal.returns-clause-appended
unfolding numbered
returns-clause-appended c =
    two_joined c.args.line.now c.push_text-2.new.self c.push_number.new.self (c.args.word.now ++ codes " ")
    (decimal c.args.count)
    (two_joined c.args.line.now c.push_text.new.self c.push_text-2.new.self c.args.word.now (codes " ")
    c.push_text.ensures.appended c.push_text-2.ensures.appended)
    c.push_number.ensures.appended
