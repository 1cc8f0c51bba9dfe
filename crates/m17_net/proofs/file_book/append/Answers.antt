use Rattle.std.proofs.Common.{rules, ◌-◌, ◌^◌, Ok, Err}
use Rattle.std.specs.IoError.{error_kind}
use Rattle.m17_net.specs.Files.{IsGoingOn}
use Rattle.m17_net.proofs.Appended.{appends-on}
use Rattle.m17_net.proofs.Tries.{tries-again, lets-go}
use Rattle.m17_net.proofs.file_book.append.Goals as goal
use Rattle.m17_net.proofs.file_book.append.Goals.{in-Ok+else-at-bytes, in-Err+else-ne}

pub returns-in-Ok-eq0-clause-given_up : goal.returns-in-Ok-eq0-clause-given_up
returns-in-Ok-eq0-clause-given_up g c =
    lets-go IsGoingOn (2 ^ 64 - 1) c.loop.counter (g.F.BookFile.answered c.args.file.now)
    (g.F.BookFile.answered c.loop.file) (g.F.BookFile.answered c.write_some.new.self)
    (Ok 0) c.loop.invariant.answered (search rules) (search rules) (search rules)

pub returns-then-ne-clause-given_up : goal.returns-then-ne-clause-given_up
returns-then-ne-clause-given_up g c =
    lets-go IsGoingOn (2 ^ 64 - 1) c.loop.counter (g.F.BookFile.answered c.args.file.now)
    (g.F.BookFile.answered c.loop.file) (g.F.BookFile.answered c.write_some.new.self)
    (Err (error_kind c.in-Err.e)) c.loop.invariant.answered (search rules) (search rules) (search rules)

pub loop-preserved : goal.loop-preserved
loop-preserved g c =
    let before = g.F.BookFile.answered c.args.file.now in
    let now = g.F.BookFile.answered c.loop.file in
    let after = g.F.BookFile.answered c.write_some.new.self in
    elim c.match-write_some.branch [
      | in-Ok+else-at-bytes w ↦ record {
        within = search rules;
        appended = appends-on c.loop.at w.in-Ok.n c.match-write_some.at c.args.bytes.now
            (g.F.BookFile.held c.args.file.now) (g.F.BookFile.held c.loop.file)
            (g.F.BookFile.held c.write_some.new.self) w.at-is c.loop.invariant.appended w.in-Ok.ensures.held;
        answered = tries-again IsGoingOn c.loop.counter before now after (Ok w.in-Ok.n)
            c.loop.invariant.answered (search rules) (search rules);
      }
      | in-Err+else-ne w ↦ record {
        within = search rules;
        appended = search rules;
        answered = tries-again IsGoingOn c.loop.counter before now after (Err (error_kind w.in-Err.e))
            c.loop.invariant.answered (search rules) (search rules);
      }
    ]

pub returns-then-at-bytes-clause-gone_on : goal.returns-then-at-bytes-clause-gone_on
returns-then-at-bytes-clause-gone_on g c =
    let t = tries-again IsGoingOn c.loop.counter (g.F.BookFile.answered c.args.file.now)
    (g.F.BookFile.answered c.loop.file) (g.F.BookFile.answered c.write_some.new.self)
    (Ok c.in-Ok.n) c.loop.invariant.answered (search rules) (search rules) in
    (t.0, t.1, t.3)
